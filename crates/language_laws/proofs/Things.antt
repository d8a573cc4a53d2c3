-- Operators, collections and built-in methods keep a request in order.
use Rattle.std.proofs.Common.{ℕ, ◌+◌, ◌*◌, Bool, true, false, List, length, map, Option, None, Some, refl}
use Rattle.std.specs.Prelude.{slice_get}
use Rattle.apex_num.specs.declared.cell.Cell.{Cell}
use Rattle.apex_num.specs.declared.cell.Cell.TheVariants as C
use Rattle.apex_num.specs.declared.kind.LimitKind.{LimitKind}
use Rattle.apex_num.specs.declared.kind.LimitKind.TheVariants.{Alloc}
use Rattle.apex_requests.specs.declared.request.Ticket.{Ticket}
use Rattle.builtin_sizes.specs.Sizes.{sized}
use Rattle.builtin_table.specs.Answers.{Answer}
use Rattle.builtin_table.specs.Meanings.{meaning}
use Rattle.builtin_table.specs.declared.exception.ExceptionClass.{ExceptionClass}
use Rattle.builtin_table.specs.declared.method.Builtin.{Builtin as Which}
use Rattle.builtin_table.specs.declared.method.Builtin.TheVariants as B
use Rattle.builtin_table.specs.declared.method.PlatformMethod.{PlatformMethod}
use Rattle.builtin_table.specs.declared.method.PlatformMethod.TheVariants as P
use Rattle.heap_methods.specs.Methods.{method, units}
use Rattle.heap_methods.specs.Outcomes.{Outcome, Done, Answers, Throws, done as things_done, units_of}
use Rattle.heap_methods.specs.Making.{copied}
use Rattle.platform_errors.specs.declared.thrown.Thrown.TheVariants.{NullObject, NoErrors}
use Rattle.save_meaning.specs.Results.{Gives, bind}
use Rattle.request_states.specs.Expressions as Small
use Rattle.save_meaning.specs.Sites.{Site}
use Rattle.request_states.specs.States.{State, World, charge, with_heap}
use Rattle.txn_heap.specs.Guards.{guard_of, takes_error, with_error}
use Rattle.txn_heap.specs.declared.thing.Thing.{Thing}
use Rattle.txn_heap.specs.declared.thing.Value.{Value}
use Rattle.txn_heap.specs.declared.thing.Value.TheVariants.{Plain, Object}
use Rattle.typed_program.specs.declared.expr.CollectionKind.{CollectionKind}
use Rattle.typed_program.specs.declared.expr.CollectionKind.TheVariants as Kind
use Rattle.typed_program.specs.declared.expr.Conversion.{Conversion}
use Rattle.typed_program.specs.declared.expr.TypedOp.{TypedOp}
use Rattle.typed_program.specs.declared.expr.TypedOp.TheVariants as Op
use Rattle.typed_program.specs.declared.program.Program.{Program}
use Rattle.apex_meaning.specs.Builtins as Built
use Rattle.apex_meaning.specs.Collections as Coll
use Rattle.apex_meaning.specs.Exceptions as X
use Rattle.apex_meaning.specs.Meanings.{Run, truth_of}
use Rattle.apex_meaning.specs.Operations as Ops
use Rattle.language_laws.proofs.Paid
use Rattle.language_laws.proofs.Paid.{Paid, paid_gives, paid_leaves, paid_puts, paid_bind, paid_before, freely, paid_charge, paid_throws, paid_unbuilt, paid_calc, paid_known, paid_make}
use Rattle.language_laws.proofs.Worlds.{Sound, Later, later_same, later_kept}

module _ (program : Program) (n : ℕ) where
  -- ---- operators

  pub paid_text : (text : List ℕ) → Paid program n (Ops.text_made text)
  paid_text text = paid_bind program n (charge Alloc (16 + length text)) _ (paid_charge program n Alloc (16 + length text) (freely program)) (λ u. paid_gives program n (λ s. Plain (C.Text text)))

  pub paid_apply : (left : Conversion) (op : TypedOp) (right : Conversion) (v w : Value) → Paid program n (Ops.apply left op right v w)
  paid_apply left Op.Join right v w = paid_text _
  paid_apply left (Op.Arithmetic a k) right v w = paid_calc program n _
  paid_apply left Op.Equal right v w = paid_calc program n _
  paid_apply left Op.Differs right v w = paid_calc program n _
  paid_apply left (Op.Order o) right v w = paid_calc program n _
  paid_apply left Op.And right v w = paid_calc program n _
  paid_apply left Op.Or right v w = paid_calc program n _

  pub paid_truth : (v : Value) → Paid program n (truth_of v)
  paid_truth v = paid_known program n _

  paid_decided : (right : Run) → Paid program n right → Paid program n (Ops.decided right)
  paid_decided right h = paid_bind program n right _ h (λ w. paid_bind program n (truth_of w) _ (paid_truth w) (λ b. paid_gives program n (λ s. Ops.boolean b)))

  paid_both : (right : Run) (b : Bool) → Paid program n right → Paid program n (Ops.both right b)
  paid_both right true h = paid_decided right h
  paid_both right false h = paid_gives program n (λ s. Ops.boolean false)

  paid_either : (right : Run) (b : Bool) → Paid program n right → Paid program n (Ops.either right b)
  paid_either right true h = paid_gives program n (λ s. Ops.boolean true)
  paid_either right false h = paid_decided right h

  then_applied : (left : Conversion) (op : TypedOp) (right : Conversion) (e : Run) (v : Value) → Paid program n e → Paid program n (λ st. bind (e st) (λ w s. Ops.apply left op right v w s))
  then_applied left op right e v h = paid_bind program n e _ h (λ w. paid_apply left op right v w)

  pub paid_operated : (left : Conversion) (op : TypedOp) (right : Conversion) (e : Run) (v : Value) → Paid program n e → Paid program n (Ops.operated left op right e v)
  paid_operated left Op.And right e v h = paid_bind program n (truth_of v) _ (paid_truth v) (λ b. paid_both e b h)
  paid_operated left Op.Or right e v h = paid_bind program n (truth_of v) _ (paid_truth v) (λ b. paid_either e b h)
  paid_operated left Op.Join right e v h = then_applied left Op.Join right e v h
  paid_operated left (Op.Arithmetic a k) right e v h = then_applied left (Op.Arithmetic a k) right e v h
  paid_operated left Op.Equal right e v h = then_applied left Op.Equal right e v h
  paid_operated left Op.Differs right e v h = then_applied left Op.Differs right e v h
  paid_operated left (Op.Order o) right e v h = then_applied left (Op.Order o) right e v h

  -- ---- collections and exceptions

  done_comes : (w : World) (d : Done) (st : State) → Later program w st.world → Sound st.world.txn.charges → Paid.Comes program st.world (Coll.done d st)
  done_comes w (Answers v heap) st l h = record { holds = later_kept program st.world _ h refl refl refl }
  done_comes w (Throws c text) st l h = record { holds = later_same program st.world h }

  pub paid_done : (d : State → Done) → Paid program n (λ st. Coll.done (d st) st)
  paid_done d = record { at = λ st h lt. done_comes st.world (d st) st (later_same program st.world h) h }

  pub paid_on_collection : (which : Which) (v : Value) (args : List Value) → Paid program n (Coll.on_collection which v args)
  paid_on_collection which (Plain c) args = paid_throws program n NullObject
  paid_on_collection which (Object r) args = record {
    at = λ st h lt.
        (paid_bind program n (charge Alloc (units which r.place args st.world.heap)) (λ u s. Coll.done (method which r.place args s.world.heap) s)
        (paid_charge program n Alloc (units which r.place args st.world.heap) (freely program)) (λ u. paid_done (λ s. method which r.place args s.world.heap))).at st h lt;
  }

  paid_make_for : (m : ℕ) (thing : Thing) → Paid program n (Coll.make_for m thing)
  paid_make_for m thing = paid_bind program n (charge Alloc m) _ (paid_charge program n Alloc m (freely program)) (λ u. paid_make program n thing)

  pub paid_filled : (kind : CollectionKind) (vs : List Value) → Paid program n (Coll.make_filled kind vs)
  paid_filled Kind.List vs = paid_make_for _ _
  paid_filled (Kind.Set p) vs = paid_make_for _ _
  paid_filled (Kind.Map p) vs = paid_make_for _ _

  pub paid_map : (ps : List (Value × Value)) → Paid program n (Coll.make_map ps)
  paid_map ps = paid_make_for _ _

  paid_outcome : (o : Outcome) → Paid program n (Coll.make_outcome o)
  paid_outcome o = paid_bind program n (charge Alloc (units_of None o)) _ (paid_charge program n Alloc (units_of None o) (freely program)) (λ u. paid_done (λ s. things_done 0 s.world.heap o))

  pub paid_copy : (kind : CollectionKind) (v : Value) → Paid program n (Coll.make_copy kind v)
  paid_copy kind v = record { at = λ st h lt. (paid_outcome (copied (Coll.collection kind) v st.world.heap)).at st h lt }

  pub paid_exception : (c : ExceptionClass) (vs : List Value) → Paid program n (Coll.make_exception c vs)
  paid_exception c vs = paid_make_for _ _

  pub paid_record : (site : Site) (object : ℕ) (ps : List (ℕ × Value)) → Paid program n (Small.make_record site object ps)
  paid_record site object ps = paid_bind program n (charge Alloc (32 + 32 * length ps)) _ (paid_charge program n Alloc (32 + 32 * length ps) (freely program)) (λ u. paid_make program n _)

  -- ---- built-in methods

  charge_answer : (o : Option ℕ) → Paid program n (Built.charge_answer o)
  charge_answer None = paid_gives program n (λ s. tt)
  charge_answer (Some m) = paid_charge program n Alloc (16 + m) (freely program)

  answered : (a : Answer) → Paid program n (Built.answered a)
  answered (Answer.Gives c) = paid_gives program n (λ s. Plain c)
  answered (Answer.Throws c text) = paid_throws program n _

  on_cells : (which : Which) (cells : List Cell) → Paid program n (Built.on_cells which cells)
  on_cells which cells = paid_bind program n (Built.charge_answer (sized (meaning which cells))) _ (charge_answer (sized (meaning which cells))) (λ u. answered (meaning which cells))

  message_answered : (c : Cell) → Paid program n (Built.message_answered c)
  message_answered C.Null = paid_gives program n (λ s. _)
  message_answered (C.Bool x) = paid_gives program n (λ s. _)
  message_answered (C.Num x) = paid_gives program n (λ s. _)
  message_answered (C.Text t) = paid_text t
  message_answered (C.Id x) = paid_gives program n (λ s. _)
  message_answered (C.Day x) = paid_gives program n (λ s. _)
  message_answered (C.Moment x) = paid_gives program n (λ s. _)
  message_answered (C.Whole x) = paid_gives program n (λ s. _)

  if_exception : (k : X.Kind) (go : Run) → Paid program n go → Paid program n (Built.if_exception k go)
  if_exception X.Nothing go h = paid_throws program n NullObject
  if_exception (X.BuiltIn c) go h = h
  if_exception (X.Declared c) go h = h

  on_exception : (go : Option Thing → Run) (v : Value) → ((t : Option Thing) → Paid program n (go t)) → Paid program n (Built.on_exception go v)
  on_exception go (Plain c) h = paid_throws program n NullObject
  on_exception go (Object r) h = record { at = λ st k lt. (if_exception (X.kind_of_thing (slice_get st.world.heap r.place)) (go (slice_get st.world.heap r.place)) (h (slice_get st.world.heap r.place))).at st k lt }

  -- ---- errors of records

  if_takes_error : (b : Bool) (go : Run) → Paid program n go → Paid program n (Built.if_takes_error b go)
  if_takes_error true go h = h
  if_takes_error false go h = paid_throws program n NoErrors

  add_message : (c : Cell) (place : ℕ) → Paid program n (Built.add_message c place)
  add_message (C.Text message) place = record {
    at = λ st h lt.
        (if_takes_error (takes_error (guard_of st.world.heap place)) (λ s. Gives (Plain C.Null) (with_heap (with_error place message s.world.heap) s))
        (paid_puts program n (λ s. Plain C.Null) (λ s. with_heap (with_error place message s.world.heap) s) (λ s k. later_kept program s.world _ k refl refl refl))).at st h lt;
  }
  add_message C.Null place = paid_throws program n NullObject
  add_message (C.Bool x) place = paid_throws program n NullObject
  add_message (C.Num x) place = paid_throws program n NullObject
  add_message (C.Id x) place = paid_throws program n NullObject
  add_message (C.Day x) place = paid_throws program n NullObject
  add_message (C.Moment x) place = paid_throws program n NullObject
  add_message (C.Whole x) place = paid_throws program n NullObject

  add_error : (v message : Value) → Paid program n (Built.add_error v message)
  add_error (Plain c) message = paid_throws program n NullObject
  add_error (Object r) message = add_message (Built.cell_in message) r.place

  module _ (ticket : Ticket) where
    counted : (k : LimitKind) → Paid program n (Built.count k)
    counted k = paid_gives program n (λ s. _)

    on_platform : (m : PlatformMethod) (vs : List Value) → Paid program n (Built.on_platform program ticket m vs)
    on_platform P.Today vs = answered _
    on_platform P.Now vs = paid_gives program n (λ s. _)
    on_platform P.UserId vs = paid_gives program n (λ s. _)
    on_platform P.Message vs = on_exception _ (Built.first_of vs) (λ t. message_answered (X.message_of_thing t))
    on_platform P.TypeName vs = on_exception _ (Built.first_of vs) (λ t. paid_text (X.name_of_kind program (X.kind_of_thing t)))
    on_platform P.AddError vs = add_error (Built.first_of vs) (Built.first_of (Built.rest_of vs))
    on_platform P.Queries vs = paid_gives program n (λ s. _)
    on_platform P.QueryRows vs = paid_gives program n (λ s. _)
    on_platform P.DmlStatements vs = paid_gives program n (λ s. _)
    on_platform P.DmlRows vs = paid_gives program n (λ s. _)
    on_platform P.LimitQueries vs = paid_gives program n (λ s. _)
    on_platform P.LimitQueryRows vs = paid_gives program n (λ s. _)
    on_platform P.LimitDmlStatements vs = paid_gives program n (λ s. _)
    on_platform P.LimitDmlRows vs = paid_gives program n (λ s. _)
    on_platform m vs = paid_unbuilt program n

    pub paid_builtin : (which : Which) (vs : List Value) → Paid program n (Built.called_builtin program ticket which vs)
    paid_builtin (B.List m) vs = paid_on_collection (B.List m) (Built.first_of vs) (Built.rest_of vs)
    paid_builtin (B.Set m) vs = paid_on_collection (B.Set m) (Built.first_of vs) (Built.rest_of vs)
    paid_builtin (B.Map m) vs = paid_on_collection (B.Map m) (Built.first_of vs) (Built.rest_of vs)
    paid_builtin B.Join vs = paid_on_collection B.Join (Built.first_of vs) (Built.rest_of vs)
    paid_builtin (B.Platform m) vs = on_platform m vs
    paid_builtin which vs = on_cells which (map Built.cell_in vs)
