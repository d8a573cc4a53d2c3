-- The phases of a chunk, for every operation (docs/platform.md, "Saves").
use Rattle.std.specs.Prelude.{ℕ, ◌+◌, ◌*◌, Bool, true, false, List, [], ◌∷◌, length}
use Rattle.apex_num.specs.declared.kind.LimitKind.TheVariants.{Steps, Alloc}
use Rattle.apex_schema.specs.declared.schema.Object.{Object}
use Rattle.apex_rows.specs.declared.row.Row.{Row}
use Rattle.apex_requests.specs.declared.request.Context.{Context}
use Rattle.apex_requests.specs.declared.request.SaveRow.{SaveRow}
use Rattle.record_ids.specs.Ids.{minted_id}
use Rattle.row_meaning.specs.Overlays.{Overlay, Now, Gone}
use Rattle.txn_overlay.specs.Changes.{changed}
use Rattle.save_meaning.specs.Sites.{Site}
use Rattle.save_meaning.specs.Results.{Res, Gives, bind}
use Rattle.save_meaning.specs.Transactions.{Keeps, charge, set_overlay}
use Rattle.save_meaning.specs.Drafts.{written}
use Rattle.store_inquiries.specs.Inquiries.{Inquiry, inquire}
use Rattle.save_statements.specs.declared.pending.Act.{Act}
use Rattle.save_statements.specs.declared.pending.Act.TheVariants.{Inserting, Updating, Deleting}
use Rattle.save_statements.specs.declared.pending.Manner.{Manner}
use Rattle.save_statements.specs.declared.pending.Pending.{Pending}
use Rattle.save_statements.specs.declared.pending.Record.{Record}
use Rattle.save_statements.specs.declared.pending.Record.TheVariants.{Going, Wrong}
use Rattle.save_statements.specs.declared.firing.Trigger.{Trigger}
use Rattle.save_statements.specs.declared.firing.Fired.{Fired}
use Rattle.save_statements.specs.declared.firing.Entry.{Entry}
use Rattle.save_statements.specs.Records.{going}
use Rattle.save_statements.specs.Loading.{load}
use Rattle.save_statements.specs.Checks.{refer, validate}
use Rattle.save_statements.specs.Firings.{entries, context, fired, back}

-- what a save has of the code around it: the triggers of an object for an operation, before or after, in the order of their
-- folded names; the firing of one with its records; and the roll-ups over the records of an object. Nothing is thrown by
-- these, and so by no phase: what goes wrong is a record's error
pub record Code (S : Type 0) : Type 0 where
  pub triggers : ℕ → Act → Bool → List Trigger
  pub fire : ℕ → Context → S → Res S ⊥ Fired
  pub roll_up : ℕ → List Record → S → Res S ⊥ (List Record)

-- the units of a row that is written
abbrev pub row_units : Object → ℕ
row_units o = 64 + 32 * length o.fields

-- without the rows that go
abbrev pub drop_all : List (List ℕ) → Overlay → Overlay
drop_all [] overlay = overlay
drop_all (i ∷ is) overlay = drop_all is (changed i Gone overlay)

module _ {S : Type 0} (keeps : Keeps S) (site : Site) where
  abbrev pub overlay_of : S → Overlay
  overlay_of s = (keeps.txn s).overlay

  -- what is found out about the records, where the transaction has its changes so far
  abbrev pub looks : (Overlay → List Record → Inquiry (List Record)) → List Record → S → Res S ⊥ (List Record)
  looks phase rs s = inquire keeps (phase (overlay_of s) rs) s

  -- ---- writing

  abbrev pub next_id : Object → S → List ℕ
  next_id o s = minted_id o.prefix site.ticket.session site.ticket.index ((keeps.txn s).minted + 1)

  abbrev pub mint : S → S
  mint s = keeps.with_txn (record (keeps.txn s) { minted = (keeps.txn s).minted + 1 }) s

  abbrev pub put : List ℕ → Row → S → S
  put id row s = set_overlay keeps (changed id (Now (written id row)) (overlay_of s)) s

  -- a row that is written is charged, and has the next Id where it is new; a row that goes takes with it all that goes
  abbrev pub write_one : Act → Object → Pending → S → Res S ⊥ Pending
  write_one Inserting o p s =
      bind (charge keeps Alloc (row_units o) s) (λ u s1. Gives (record p { row = written (next_id o s1) p.row }) (put (next_id o s1) p.row (mint s1)))
  write_one Updating o p s =
      bind (charge keeps Alloc (row_units o) s) (λ u s1. Gives (record p { row = written p.row.id p.row }) (put p.row.id p.row s1))
  write_one Deleting o p s = Gives p (set_overlay keeps (drop_all p.under (overlay_of s)) s)

  abbrev pub write : Act → Object → List Record → S → Res S ⊥ (List Record)
  write act o [] s = Gives [] s
  write act o (Wrong e ∷ rs) s = bind (write act o rs s) (λ more s1. Gives (Wrong e ∷ more) s1)
  write act o (Going p ∷ rs) s = bind (write_one act o p s) (λ q s1. bind (write act o rs s1) (λ more s2. Gives (Going q ∷ more) s2))

  -- ---- entering

  -- so many records enter a phase, a step each; where none does, nothing follows
  abbrev pub enter_these : List Pending → (List Record → S → Res S ⊥ (List Record)) → List Record → S → Res S ⊥ (List Record)
  enter_these [] phase rs s = Gives rs s
  enter_these (p ∷ ps) phase rs s = bind (charge keeps Steps (length (p ∷ ps)) s) (λ u s1. phase rs s1)

  abbrev pub enter : (List Record → S → Res S ⊥ (List Record)) → List Record → S → Res S ⊥ (List Record)
  enter phase rs s = enter_these (going rs) phase rs s

module _ {S : Type 0} (keeps : Keeps S) (site : Site) (code : Code S) where
  -- each trigger has all records that entered the phase, those with an error too
  abbrev pub fire_all : Act → Bool → List Trigger → List Entry → S → Res S ⊥ (List Entry)
  fire_all act before [] es s = Gives es s
  fire_all act before (t ∷ ts) es s = bind (code.fire t.number (context act before es) s) (λ f s1. fire_all act before ts (fired t f es) s1)

  abbrev pub trigger : Act → Bool → ℕ → List Record → S → Res S ⊥ (List Record)
  trigger act before object rs s = bind (fire_all act before (code.triggers object act before) (entries rs) s) (λ es s1. Gives (back es) s1)

  -- loading, references, triggers before, validation, writing, triggers after, roll-ups
  abbrev pub save_chunk : Act → Manner → ℕ → Object → List SaveRow → S → Res S ⊥ (List Record)
  save_chunk act by object o rows s =
      bind (charge keeps Steps (length rows) s) (λ u s0.
      bind (inquire keeps (load site (overlay_of keeps site s0) act by object o rows) s0) (λ r1 s1.
      bind (enter keeps site (looks keeps site (λ overlay rs. refer site overlay act o rs)) r1 s1) (λ r2 s2.
      bind (enter keeps site (trigger act true object) r2 s2) (λ r3 s3.
      bind (enter keeps site (looks keeps site (λ overlay rs. validate site overlay act object o rs)) r3 s3) (λ r4 s4.
      bind (enter keeps site (write keeps site act o) r4 s4) (λ r5 s5.
      bind (enter keeps site (trigger act false object) r5 s5) (λ r6 s6.
      enter keeps site (code.roll_up object) r6 s6)))))))
