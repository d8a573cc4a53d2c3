-- Calls of built-in methods (docs/language.md, "Built-in methods").
use Rattle.std.specs.Prelude.{ℕ, ◌+◌, pos, Bool, true, false, List, [], ◌∷◌, length, map, slice_get, Option, None, Some}
use Rattle.apex_num.specs.declared.cell.Cell.{Cell}
use Rattle.apex_num.specs.declared.cell.Cell.TheVariants as C
use Rattle.apex_num.specs.declared.kind.LimitKind.{LimitKind}
use Rattle.apex_num.specs.declared.kind.LimitKind.TheVariants as K
use Rattle.apex_requests.specs.declared.request.Ticket.{Ticket}
use Rattle.builtin_sizes.specs.Sizes.{sized}
use Rattle.builtin_table.specs.Answers.{Answer}
use Rattle.builtin_table.specs.Answers as Answer
use Rattle.builtin_table.specs.Meanings.{meaning}
use Rattle.builtin_table.specs.declared.method.Builtin.{Builtin as Which}
use Rattle.builtin_table.specs.declared.method.Builtin.TheVariants as B
use Rattle.builtin_table.specs.declared.method.MomentMethod.TheVariants.{Date}
use Rattle.builtin_table.specs.declared.method.PlatformMethod.{PlatformMethod}
use Rattle.builtin_table.specs.declared.method.PlatformMethod.TheVariants as P
use Rattle.limit_meter.specs.Charges.{counter, limit_of}
use Rattle.platform_errors.specs.declared.thrown.Thrown.TheVariants.{NullObject, NoErrors, Builtin}
use Rattle.row_meaning.specs.Users.{user_id}
use Rattle.save_meaning.specs.Results.{Gives, bind}
use Rattle.request_states.specs.States.{State, Res, charge, throws, unbuilt, with_heap}
use Rattle.txn_heap.specs.Guards.{guard_of, takes_error, with_error}
use Rattle.txn_heap.specs.declared.thing.Thing.{Thing}
use Rattle.txn_heap.specs.declared.thing.Value.{Value}
use Rattle.txn_heap.specs.declared.thing.Value.TheVariants.{Plain, Object}
use Rattle.typed_program.specs.declared.program.Program.{Program}
use Rattle.apex_meaning.specs.Collections.{on_collection}
use Rattle.apex_meaning.specs.Exceptions.{Kind, Nothing, kind_of_thing, name_of_kind, message_of_thing}
use Rattle.apex_meaning.specs.Meanings.{Do, Run}
use Rattle.apex_meaning.specs.Operations.{text_made}

-- ---- methods of primitives

-- a primitive; a thing is none
abbrev pub cell_in : Value → Cell
cell_in (Plain c) = c
cell_in (Object r) = C.Null

-- a text that is answered is charged first
abbrev pub charge_answer : Option ℕ → Do
charge_answer None st = Gives tt st
charge_answer (Some n) st = charge K.Alloc (16 + n) st

abbrev pub answered : Answer → Run
answered (Answer.Gives c) st = Gives (Plain c) st
answered (Answer.Throws c text) st = throws (Builtin c text) st

abbrev pub on_cells : Which → List Cell → Run
on_cells which cells st = bind (charge_answer (sized (meaning which cells)) st) (λ u s. answered (meaning which cells) s)

-- ---- methods of exceptions

abbrev pub message_answered : Cell → Run
message_answered (C.Text t) st = text_made t st
message_answered c st = Gives (Plain c) st

abbrev pub if_exception : Kind → Run → Run
if_exception Nothing go st = throws NullObject st
if_exception k go st = go st

abbrev pub on_exception : (Option Thing → Run) → Value → Run
on_exception go (Plain c) st = throws NullObject st
on_exception go (Object r) st = if_exception (kind_of_thing (slice_get st.world.heap r.place)) (go (slice_get st.world.heap r.place)) st

-- ---- methods that ask the request

abbrev pub count : LimitKind → Run
count k st = Gives (Plain (C.Whole (pos (counter k st.world.txn.charges)))) st

abbrev pub most : LimitKind → Run
most k st = Gives (Plain (C.Whole (pos (limit_of k)))) st

abbrev pub first_of : List Value → Value
first_of [] = Plain C.Null
first_of (v ∷ vs) = v

abbrev pub rest_of : List Value → List Value
rest_of [] = []
rest_of (v ∷ vs) = vs

-- ---- errors of records

abbrev pub if_takes_error : Bool → Run → Run
if_takes_error true go st = go st
if_takes_error false go st = throws NoErrors st

-- an error is added to a record that takes one; a null message throws before
abbrev pub add_message : Cell → ℕ → Run
add_message (C.Text message) place st =
    if_takes_error (takes_error (guard_of st.world.heap place)) (λ s. Gives (Plain C.Null) (with_heap (with_error place message s.world.heap) s)) st
add_message c place st = throws NullObject st

abbrev pub add_error : Value → Value → Run
add_error (Plain c) message st = throws NullObject st
add_error (Object r) message st = add_message (cell_in message) r.place st

module _ (program : Program) (ticket : Ticket) where
  -- what asks the results of a statement, or for savepoints, isn't built yet
  abbrev pub on_platform : PlatformMethod → List Value → Run
  on_platform P.Today vs st = answered (meaning (B.Moment Date) (C.Moment ticket.now ∷ [])) st
  on_platform P.Now vs st = Gives (Plain (C.Moment ticket.now)) st
  on_platform P.UserId vs st = Gives (Plain (C.Id (user_id ticket.user))) st
  on_platform P.Message vs st = on_exception (λ t. message_answered (message_of_thing t)) (first_of vs) st
  on_platform P.TypeName vs st = on_exception (λ t. text_made (name_of_kind program (kind_of_thing t))) (first_of vs) st
  on_platform P.AddError vs st = add_error (first_of vs) (first_of (rest_of vs)) st
  on_platform P.Queries vs st = count K.Queries st
  on_platform P.QueryRows vs st = count K.Rows st
  on_platform P.DmlStatements vs st = count K.Dml st
  on_platform P.DmlRows vs st = count K.Saved st
  on_platform P.LimitQueries vs st = most K.Queries st
  on_platform P.LimitQueryRows vs st = most K.Rows st
  on_platform P.LimitDmlStatements vs st = most K.Dml st
  on_platform P.LimitDmlRows vs st = most K.Saved st
  on_platform _ vs st = unbuilt st

  -- a built-in method on its receiver, where there is one, and its arguments
  abbrev pub called_builtin : Which → List Value → Run
  called_builtin (B.List m) vs st = on_collection (B.List m) (first_of vs) (rest_of vs) st
  called_builtin (B.Set m) vs st = on_collection (B.Set m) (first_of vs) (rest_of vs) st
  called_builtin (B.Map m) vs st = on_collection (B.Map m) (first_of vs) (rest_of vs) st
  called_builtin B.Join vs st = on_collection B.Join (first_of vs) (rest_of vs) st
  called_builtin (B.Platform m) vs st = on_platform m vs st
  called_builtin which vs st = on_cells which (map cell_in vs) st
