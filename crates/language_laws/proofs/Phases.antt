-- The phases of a chunk keep a request in order.
use Rattle.std.proofs.Common.{ℕ, Bool, true, false, List, [], ◌∷◌, length, refl}
use Rattle.apex_num.specs.declared.kind.LimitKind.TheVariants.{Steps, Alloc}
use Rattle.apex_schema.specs.declared.schema.Object.{Object}
use Rattle.apex_rows.specs.declared.query.Answer.{Answer}
use Rattle.apex_rows.specs.declared.query.Question.{Question}
use Rattle.apex_requests.specs.declared.request.Context.{Context}
use Rattle.apex_requests.specs.declared.request.SaveRow.{SaveRow}
use Rattle.row_meaning.specs.Overlays.{Overlay}
use Rattle.save_meaning.specs.Drafts.{written}
use Rattle.save_meaning.specs.Results as R
use Rattle.save_meaning.specs.Results.{Gives, bind}
use Rattle.save_meaning.specs.Sites.{Site}
use Rattle.save_meaning.specs.Transactions.{answered, ask, charge, set_overlay}
use Rattle.store_inquiries.specs.Inquiries.{Inquiry, Found, Asked, inquire}
use Rattle.save_statements.specs.Checks.{refer, validate}
use Rattle.save_statements.specs.Firings.{entries, context, fired, back}
use Rattle.save_statements.specs.Loading.{load}
use Rattle.save_statements.specs.Phases as P
use Rattle.save_statements.specs.Phases.{Code, row_units, drop_all}
use Rattle.save_statements.specs.Records.{going}
use Rattle.save_statements.specs.declared.firing.Entry.{Entry}
use Rattle.save_statements.specs.declared.firing.Trigger.{Trigger}
use Rattle.save_statements.specs.declared.pending.Act.{Act}
use Rattle.save_statements.specs.declared.pending.Act.TheVariants.{Inserting, Updating, Deleting}
use Rattle.save_statements.specs.declared.pending.Manner.{Manner}
use Rattle.save_statements.specs.declared.pending.Pending.{Pending}
use Rattle.save_statements.specs.declared.pending.Record.{Record}
use Rattle.save_statements.specs.declared.pending.Record.TheVariants.{Going, Wrong}
use Rattle.request_states.specs.States.{State, keeps}
use Rattle.typed_program.specs.declared.program.Program.{Program}
use Rattle.language_laws.proofs.Paid
use Rattle.language_laws.proofs.Paid.{Paid, paid_gives, paid_puts, paid_bind, freely, paid_charge}
use Rattle.language_laws.proofs.Worlds.{Sound, later_same, later_kept}

module _ (program : Program) (n : ℕ) where
  -- ---- questions

  answer_comes : {E : Type 0} (q : Question) (st : State) (tape : List Answer) → Sound st.world.txn.charges → Paid.Comes program {E = E} st.world (answered keeps q tape st)
  answer_comes q st [] h = record { holds = later_same program st.world h }
  answer_comes q st (a ∷ more) h = record { holds = later_kept program st.world _ h refl refl refl }

  pub paid_ask : {E : Type 0} (q : Question) → Paid program {E = E} n (ask keeps q)
  paid_ask q = record { at = λ st h lt. answer_comes q st st.world.txn.tape h }

  pub paid_inquire : {E A : Type 0} (i : Inquiry A) → Paid program {E = E} n (inquire keeps i)
  paid_inquire (Found a) = paid_gives program n (λ s. a)
  paid_inquire (Asked q next) = paid_bind program n (ask keeps q) (λ answer s1. inquire keeps (next answer) s1) (paid_ask q) (λ answer. paid_inquire (next answer))

  -- what code around a save does keeps the request in order too
  pub record Orderly (code : Code State) : Type 0 where
    pub fires : (k : ℕ) (c : Context) → Paid program n (code.fire k c)
    pub rolls : (object : ℕ) (rs : List Record) → Paid program n (code.roll_up object rs)

  module _ (site : Site) where
    abbrev Phase : Type 0
    Phase = List Record → State → R.Res State ⊥ (List Record)

    paid_looks : (phase : Overlay → List Record → Inquiry (List Record)) (rs : List Record) → Paid program n (P.looks keeps site phase rs)
    paid_looks phase rs = record { at = λ st h lt. (paid_inquire (phase st.world.txn.overlay rs)).at st h lt }

    paid_load : (act : Act) (by : Manner) (object : ℕ) (o : Object) (rows : List SaveRow) → Paid program {E = ⊥} n (λ s. inquire keeps (load site (P.overlay_of keeps site s) act by object o rows) s)
    paid_load act by object o rows = record { at = λ st h lt. (paid_inquire (load site st.world.txn.overlay act by object o rows)).at st h lt }

    -- ---- writing

    paid_write_one : (act : Act) (o : Object) (p : Pending) → Paid program n (P.write_one keeps site act o p)
    paid_write_one Inserting o p =
        paid_bind program n (charge keeps Alloc (row_units o)) _ (paid_charge program n Alloc (row_units o) (freely program))
        (λ u. paid_puts program n (λ s. record p { row = written (P.next_id keeps site o s) p.row }) (λ s. P.put keeps site (P.next_id keeps site o s) p.row (P.mint keeps site s)) (λ s h. later_kept program s.world _ h refl refl refl))
    paid_write_one Updating o p =
        paid_bind program n (charge keeps Alloc (row_units o)) _ (paid_charge program n Alloc (row_units o) (freely program))
        (λ u. paid_puts program n (λ s. record p { row = written p.row.id p.row }) (λ s. P.put keeps site p.row.id p.row s) (λ s h. later_kept program s.world _ h refl refl refl))
    paid_write_one Deleting o p = paid_puts program n (λ s. p) (λ s. set_overlay keeps (drop_all p.under (P.overlay_of keeps site s)) s) (λ s h. later_kept program s.world _ h refl refl refl)

    paid_write : (act : Act) (o : Object) (rs : List Record) → Paid program n (P.write keeps site act o rs)
    paid_write act o [] = paid_gives program n (λ s. [])
    paid_write act o (Wrong e ∷ rs) = paid_bind program n (P.write keeps site act o rs) (λ more s1. Gives (Wrong e ∷ more) s1) (paid_write act o rs) (λ more. paid_gives program n (λ s. Wrong e ∷ more))
    paid_write act o (Going p ∷ rs) =
        paid_bind program n (P.write_one keeps site act o p) (λ q s1. bind (P.write keeps site act o rs s1) (λ more s2. Gives (Going q ∷ more) s2)) (paid_write_one act o p)
        (λ q. paid_bind program n (P.write keeps site act o rs) (λ more s2. Gives (Going q ∷ more) s2) (paid_write act o rs) (λ more. paid_gives program n (λ s. Going q ∷ more)))

    -- ---- entering

    paid_enter_these : (ps : List Pending) (phase : Phase) (rs : List Record) → Paid program n (phase rs) → Paid program n (P.enter_these keeps site ps phase rs)
    paid_enter_these [] phase rs h = paid_gives program n (λ s. rs)
    paid_enter_these (p ∷ ps) phase rs h = paid_bind program n (charge keeps Steps (length (p ∷ ps))) (λ u s1. phase rs s1) (paid_charge program n Steps (length (p ∷ ps)) (freely program)) (λ u. h)

    paid_enter : (phase : Phase) → ((rs : List Record) → Paid program n (phase rs)) → (rs : List Record) → Paid program n (P.enter keeps site phase rs)
    paid_enter phase h rs = paid_enter_these (going rs) phase rs (h rs)

    -- ---- all phases

    module _ (code : Code State) (orderly : Orderly code) where
      paid_fire_all : (act : Act) (before : Bool) (ts : List Trigger) (es : List Entry) → Paid program n (P.fire_all keeps site code act before ts es)
      paid_fire_all act before [] es = paid_gives program n (λ s. es)
      paid_fire_all act before (t ∷ ts) es =
          paid_bind program n (code.fire t.number (context act before es)) (λ f s1. P.fire_all keeps site code act before ts (fired t f es) s1) (orderly.fires t.number (context act before es))
          (λ f. paid_fire_all act before ts (fired t f es))

      paid_trigger : (act : Act) (before : Bool) (object : ℕ) (rs : List Record) → Paid program n (P.trigger keeps site code act before object rs)
      paid_trigger act before object rs =
          paid_bind program n (P.fire_all keeps site code act before (code.triggers object act before) (entries rs)) (λ es s1. Gives (back es) s1) (paid_fire_all act before (code.triggers object act before) (entries rs))
          (λ es. paid_gives program n (λ s. back es))

      pub paid_chunk : (act : Act) (by : Manner) (object : ℕ) (o : Object) (rows : List SaveRow) → Paid program n (P.save_chunk keeps site code act by object o rows)
      paid_chunk act by object o rows =
          paid_bind program n _ _ (paid_charge program n Steps (length rows) (freely program))
          (λ u. paid_bind program n _ _ (paid_load act by object o rows)
          (λ r1. paid_bind program n _ _ (paid_enter (P.looks keeps site (λ overlay rs. refer site overlay act o rs)) (paid_looks (λ overlay rs. refer site overlay act o rs)) r1)
          (λ r2. paid_bind program n _ _ (paid_enter (P.trigger keeps site code act true object) (paid_trigger act true object) r2)
          (λ r3. paid_bind program n _ _ (paid_enter (P.looks keeps site (λ overlay rs. validate site overlay act object o rs)) (paid_looks (λ overlay rs. validate site overlay act object o rs)) r3)
          (λ r4. paid_bind program n _ _ (paid_enter (P.write keeps site act o) (paid_write act o) r4)
          (λ r5. paid_bind program n _ _ (paid_enter (P.trigger keeps site code act false object) (paid_trigger act false object) r5)
          (λ r6. paid_enter (code.roll_up object) (orderly.rolls object) r6)))))))
