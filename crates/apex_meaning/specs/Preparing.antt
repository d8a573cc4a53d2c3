-- Classes are prepared, and instances are made (docs/language.md, "Classes as they run").
use Rattle.std.specs.Prelude.{ℕ, ◌+◌, ◌*◌, Bool, true, false, cond, List, [], ◌∷◌, ◌++◌, length, map, replicate, reverse, slice_get, slice_set, Option, None, Some}
use Rattle.activations.specs.declared.here.Here.{Here}
use Rattle.apex_num.specs.declared.cell.Cell.{Cell}
use Rattle.apex_num.specs.declared.cell.Cell.TheVariants as C
use Rattle.apex_num.specs.declared.kind.LimitKind.TheVariants.{Alloc}
use Rattle.save_meaning.specs.Results.{Gives, bind}
use Rattle.request_states.specs.States.{State, Res, charge, make, with_heap}
use Rattle.request_states.specs.Values.{null}
use Rattle.txn_heap.specs.declared.thing.Thing.{Thing}
use Rattle.txn_heap.specs.declared.thing.Thing.TheVariants as T
use Rattle.txn_heap.specs.declared.thing.Value.{Value}
use Rattle.txn_heap.specs.declared.thing.Value.TheVariants.{Plain, Object}
use Rattle.txn_heap.specs.Statics.{is_prepared, prepare}
use Rattle.typed_program.specs.declared.expr.Constructor.{Constructor}
use Rattle.typed_program.specs.declared.expr.Constructor.TheVariants as K
use Rattle.typed_program.specs.declared.program.Program.{Program}
use Rattle.apex_meaning.specs.Classes.{class_at, chain, fields_at, width, instance_fields, Starts, own_starts}
use Rattle.apex_meaning.specs.Meanings.{Again, Body, Method, Constructor as Written, Fields, Statics, Do, Run, all_do, called, dropped}

-- ---- preparation

-- the classes that aren't prepared yet, the nearest first; the ancestors of a prepared class are prepared
abbrev pub unprepared : List (ℕ × List Value) → List ℕ → List ℕ
unprepared statics [] = []
unprepared statics (c ∷ cs) = cond (is_prepared c statics) [] (c ∷ unprepared statics cs)

-- they count as prepared, each with its statics, which are null at first
abbrev pub marked : Program → List ℕ → List (ℕ × List Value) → List (ℕ × List Value)
marked program [] statics = statics
marked program (c ∷ cs) statics = marked program cs (prepare c (length (fields_at program c)) statics)

abbrev pub with_statics : List (ℕ × List Value) → State → State
with_statics statics st = record st { world = record (st.world) { statics = statics } }

-- the message of an exception
abbrev pub with_message : Cell → Option Thing → ℕ → List Thing → List Thing
with_message m (Some (T.Instance i)) place heap = slice_set heap place (T.Instance (record i { message = m }))
with_message m _ place heap = heap

abbrev pub set_message : Value → List Value → State → State
set_message (Object r) (Plain m ∷ vs) st = with_heap (with_message m (slice_get st.world.heap r.place) r.place st.world.heap) st
set_message this args st = st

module _ (program : Program) (again : Again) where
  -- the initial values of the statics of a class
  abbrev pub initialised : ℕ → Do
  initialised c st = dropped (again.body (Statics c) [] null st)

  -- these classes count as prepared, and then each has its initial values
  abbrev pub prepare_these : List ℕ → Do
  prepare_these cs st = all_do (map initialised cs) (with_statics (marked program cs st.world.statics) st)

  -- a class is prepared before its first use: its farthest ancestor first
  abbrev pub prepared : ℕ → Do
  prepared c st = prepare_these (reverse (unprepared st.world.statics (chain program c))) st

  -- ---- constructors

  abbrev pub declared_first : Value → Option (ℕ × ℕ) → Do
  declared_first this None st = Gives tt st
  declared_first this (Some at) st = dropped (called (again.body (Written at.0 at.1) [] this) st)

  abbrev pub fields_of : Value → ℕ → Do
  fields_of this c st = dropped (again.body (Fields c) [] this st)

  -- what a constructor that isn't written runs
  abbrev pub started : Value → Starts → Do
  started this ss st = bind (declared_first this ss.declared st) (λ u s. all_do (map (fields_of this) ss.fields) s)

  -- a constructor of a class on an instance that is made already
  abbrev pub constructed : ℕ → Constructor → List Value → Value → Do
  constructed c (K.Declared k) args this st = dropped (called (again.body (Written c k) args this) st)
  constructed c K.Implied args this st = started this (own_starts program c) st
  constructed c K.Exception args this st = bind (started this (own_starts program c) st) (λ u s. Gives tt (set_message this args s))

  -- `new`: the class is prepared behind the arguments, an instance is charged and made, and the constructor runs
  abbrev pub new_instance : ℕ → Constructor → List Value → Run
  new_instance c k args st =
      bind (prepared c st) (λ u s.
      bind (charge Alloc (32 + 16 * instance_fields program (chain program c)) s) (λ u1 s1.
      bind (make (T.Instance (record { class = c; message = C.Null; fields = replicate (width program (chain program c)) null })) s1) (λ this s2.
      bind (constructed c k args this s2) (λ u2 s3. Gives this s3))))
