-- Classes are prepared, and instances are made, where the ways back in are paid for.
use Rattle.std.proofs.Common.{◌≡◌, ℕ, suc, ◌+◌, ◌<◌, ◌≤◌, Bool, true, false, cond, List, [], ◌∷◌, length, map, reverse, Option, None, Some, refl, sym, subst, arith}
use Rattle.std.specs.Prelude.{replicate, ◌*◌}
use Rattle.std.proofs.lemmas.List.{reverse-append}
use Rattle.std.proofs.lemmas.Option.{slice_get_within}
use Rattle.apex_num.specs.declared.cell.Cell.TheVariants as C
use Rattle.apex_num.specs.declared.kind.LimitKind.TheVariants.{Steps, Alloc}
use Rattle.limit_meter.specs.Charges.{charged}
use Rattle.save_meaning.specs.Results.{Gives, bind}
use Rattle.request_states.specs.States.{State, make}
use Rattle.request_states.specs.Values.{null}
use Rattle.txn_heap.specs.declared.thing.Thing.TheVariants as T
use Rattle.txn_heap.specs.declared.thing.Value.{Value}
use Rattle.txn_heap.specs.declared.thing.Value.TheVariants.{Plain, Object}
use Rattle.txn_heap.specs.Statics.{is_prepared}
use Rattle.typed_program.specs.declared.expr.Constructor.{Constructor}
use Rattle.typed_program.specs.declared.expr.Constructor.TheVariants as K
use Rattle.typed_program.specs.declared.program.Program.{Program}
use Rattle.typed_program.specs.declared.unit.TypedClass.{TypedClass}
use Rattle.apex_meaning.specs.Classes.{class_at, chain, chain_within, linked, parent_of, Starts, own_starts, instance_fields, width}
use Rattle.apex_meaning.specs.Meanings.{Again, Body, Constructor as Written, Fields, Statics, Do, Test, called}
use Rattle.apex_meaning.specs.Preparing as Prep
use Rattle.apex_meaning.specs.Preparing.{marked, unprepared, with_statics, set_message, with_message}
use Rattle.language_laws.proofs.Paid
use Rattle.language_laws.proofs.Paid.{Paid, Each, none, more, paid_at, paid_gives, paid_puts, paid_bind, paid_before, paid_charge, paid_throws, paid_units, paid_dropped, paid_called, paid_all_do, paid_make, comes_on}
use Rattle.language_laws.proofs.Prepared.{stay_marked, now_marked, one_more_prepared}
use Rattle.language_laws.proofs.Worlds.{Sound, spent, most_spent, Later, later_same, later_kept, later_statics}

-- ways back in that are paid for: a loop from where fewer than p + 1 are left to pay with, since it charges by itself, and a body
-- from where fewer than p are
pub record Enough (program : Program) (again : Again) (p : ℕ) : Type 0 where
  pub loop : (condition : Test) (body next : Do) → Paid program (suc p) condition → Paid program (suc p) body → Paid program (suc p) next → Paid program (suc p) (again.loop condition body next)
  pub body : (b : Body) (args : List Value) (this : Value) → Paid program p (again.body b args this)

-- and the initial values of fields from where fewer than n are
pub record EnoughFields (program : Program) (again : Again) (n : ℕ) : Type 0 where
  pub fields : (c : ℕ) (this : Value) → Paid program n (again.body (Fields c) [] this)

-- ---- which classes are prepared

-- nothing is to be prepared, or this class, which is there, and some ancestors
pub data ToPrepare (program : Program) (statics : List (ℕ × List Value)) (c : ℕ) : List ℕ → Type 0 where
  nothing : ToPrepare program statics c []
  these : (more : List ℕ) → c < length program.classes → is_prepared c statics ≡ false → ToPrepare program statics c (c ∷ more)

to_prepare : (program : Program) (statics : List (ℕ × List Value)) (c : ℕ) → ToPrepare program statics c (unprepared statics (chain program c))
to_prepare program statics c = of_class (class_at program c) (chain_within 32 program (parent_of (class_at program c))) refl
  where
    of_mark : (b : Bool) (cs : List ℕ) → is_prepared c statics ≡ b → c < length program.classes → ToPrepare program statics c (cond b [] (c ∷ cs))
    of_mark true cs e lt = nothing
    of_mark false cs e lt = these cs lt e

    of_class : (o : Option TypedClass) (cs : List ℕ) → class_at program c ≡ o → ToPrepare program statics c (unprepared statics (linked c o cs))
    of_class None cs e = nothing
    of_class (Some k) cs e = of_mark (is_prepared c statics) (unprepared statics cs) refl (slice_get_within program.classes c k e)

module _ (program : Program) (again : Again) (p : ℕ) (enough : Enough program again p) where
  initialised_each : (cs : List ℕ) → Each program p (map (Prep.initialised program again) cs)
  initialised_each [] = none
  initialised_each (c ∷ cs) = more (paid_dropped program p (again.body (Statics c) [] null) (enough.body (Statics c) [] null)) (initialised_each cs)

  spends : (a b m n : ℕ) → 1 + m ≤ n → 1 + (a + b + m) ≤ a + b + n
  spends a b m n le = omega arith

  prepare_comes : (c : ℕ) (cs : List ℕ) (st : State) → ToPrepare program st.world.statics c cs → Sound st.world.txn.charges → most_spent program < suc p + spent program st.world → Paid.Comes program st.world (Prep.prepare_these program again (reverse cs) st)
  prepare_comes c [] st nothing h lt = record { holds = later_same program st.world h }
  prepare_comes c (x ∷ xs) st (these rest there new) h lt =
      let stay = stay_marked program (reverse (x ∷ xs)) st.world.statics in
      let l = later_statics program st.world (marked program (reverse (x ∷ xs)) st.world.statics) h stay in
      let one : 1 + spent program st.world ≤ spent program (record (st.world) { statics = marked program (reverse (x ∷ xs)) st.world.statics })
      = spends (charged Steps st.world.txn.charges) (charged Alloc st.world.txn.charges) _ _ (one_more_prepared (length program.classes) x st.world.statics (marked program (reverse (x ∷ xs)) st.world.statics) there new (subst (λ cs. is_prepared x (marked program cs st.world.statics) ≡ true) (sym (reverse-append (x ∷ []) xs)) (now_marked program x (reverse xs) st.world.statics)) stay) in
      comes_on program _ _ _ l ((paid_all_do program p (map (Prep.initialised program again) (reverse (x ∷ xs))) (initialised_each (reverse (x ∷ xs)))).at (with_statics (marked program (reverse (x ∷ xs)) st.world.statics) st) h (omega arith))

  -- the preparation of classes pays for their statics
  pub paid_prepared : (c : ℕ) → Paid program (suc p) (Prep.prepared program again c)
  paid_prepared c = record { at = λ st h lt. prepare_comes c (unprepared st.world.statics (chain program c)) st (to_prepare program st.world.statics c) h lt }

  -- ---- calls

  pub paid_call : (b : Body) (args : List Value) (this : Value) → Paid program (suc p) (called (again.body b args this))
  paid_call b args this = paid_called program p (again.body b args this) (enough.body b args this)

  declared_first : (this : Value) (o : Option (ℕ × ℕ)) → Paid program (suc p) (Prep.declared_first program again this o)
  declared_first this None = paid_gives program (suc p) (λ s. tt)
  declared_first this (Some at) = paid_dropped program (suc p) (called (again.body (Written at.0 at.1) [] this)) (paid_call (Written at.0 at.1) [] this)

  module _ (n : ℕ) (le : n ≤ suc p) (fielded : EnoughFields program again n) where
    fields_each : (this : Value) (cs : List ℕ) → Each program n (map (Prep.fields_of program again this) cs)
    fields_each this [] = none
    fields_each this (c ∷ cs) = more (paid_dropped program n (again.body (Fields c) [] this) (fielded.fields c this)) (fields_each this cs)

    pub paid_started : (this : Value) (ss : Starts) → Paid program n (Prep.started program again this ss)
    paid_started this ss =
        paid_bind program n (Prep.declared_first program again this ss.declared) _ (Paid.paid_less program n (suc p) _ le (declared_first this ss.declared))
        (λ u. paid_all_do program n (map (Prep.fields_of program again this) ss.fields) (fields_each this ss.fields))

    message_kept : (this : Value) (args : List Value) (st : State) → Sound st.world.txn.charges → Later program st.world (set_message this args st).world
    message_kept (Object r) (Plain m ∷ vs) st h = later_kept program st.world _ h refl refl refl
    message_kept (Object r) (Object m ∷ vs) st h = later_same program st.world h
    message_kept (Object r) [] st h = later_same program st.world h
    message_kept (Plain c) args st h = later_same program st.world h

    pub paid_message : (this : Value) (args : List Value) (f : Do) → Paid program n f → Paid program n (λ s. f (set_message this args s))
    paid_message this args f h = paid_before program n (set_message this args) f (message_kept this args) h

    pub paid_constructed : (c : ℕ) (k : Constructor) (args : List Value) (this : Value) → Paid program n (Prep.constructed program again c k args this)
    paid_constructed c (K.Declared k) args this = Paid.paid_less program n (suc p) _ le (paid_dropped program (suc p) (called (again.body (Written c k) args this)) (paid_call (Written c k) args this))
    paid_constructed c K.Implied args this = paid_started this (own_starts program c)
    paid_constructed c K.Exception args this =
        paid_bind program n (Prep.started program again this (own_starts program c)) _ (paid_started this (own_starts program c))
        (λ u. paid_puts program n (λ s. tt) (set_message this args) (message_kept this args))

  -- the initial values of fields behind a charge
  behind_charge : EnoughFields program again p
  behind_charge = record { fields = λ c this. enough.body (Fields c) [] this }

  at_least_32 : (x : ℕ) → 1 ≤ 32 + x
  at_least_32 x = omega arith

  within : p ≤ suc p
  within = omega arith

  pub paid_new : (c : ℕ) (k : Constructor) (args : List Value) → Paid program (suc p) (Prep.new_instance program again c k args)
  paid_new c k args =
      paid_bind program (suc p) (Prep.prepared program again c) _ (paid_prepared c)
      (λ u. paid_units program p (32 + 16 * instance_fields program (chain program c))
      (λ s1. bind (make (T.Instance (record { class = c; message = C.Null; fields = replicate (width program (chain program c)) null })) s1) (λ this s2. bind (Prep.constructed program again c k args this s2) (λ u2 s3. Gives this s3)))
      (at_least_32 _)
      (paid_bind program p (make (T.Instance (record { class = c; message = C.Null; fields = replicate (width program (chain program c)) null }))) _ (paid_make program p _)
      (λ this. paid_bind program p (Prep.constructed program again c k args this) _ (paid_constructed p within behind_charge c k args this) (λ u2. paid_gives program p (λ s. this)))))
