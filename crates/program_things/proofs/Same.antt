-- What lies on the operand stack makes no difference to what instructions do behind it.
use Rattle.std.proofs.Common.{◌≡◌, ℕ, ◌+◌, Bool, true, false, cond, List, [], ◌∷◌, length, map, Option, Some, None, refl, sym, ap, ◌∙◌}
use Rattle.std.specs.Prelude.{leb, slice_get}
use Rattle.std.specs.Option.{is_some}
use Rattle.apex_num.specs.declared.cell.Cell.{Cell}
use Rattle.apex_num.specs.declared.cell.Cell.TheVariants as C
use Rattle.apex_num.specs.declared.kind.LimitKind.{LimitKind}
use Rattle.apex_num.specs.declared.kind.LimitKind.TheVariants as K
use Rattle.apex_requests.specs.declared.request.Op.{Op as Operation}
use Rattle.apex_requests.specs.declared.request.Ticket.{Ticket}
use Rattle.builtin_sizes.specs.Sizes.{sized}
use Rattle.builtin_table.specs.Answers.{Answer}
use Rattle.builtin_table.specs.Meanings.{meaning}
use Rattle.builtin_table.specs.declared.method.Builtin.{Builtin as Which}
use Rattle.builtin_table.specs.declared.method.Builtin.TheVariants as B
use Rattle.builtin_table.specs.declared.method.ListMethod.TheVariants as L
use Rattle.builtin_table.specs.declared.method.MomentMethod.TheVariants.{Date}
use Rattle.builtin_table.specs.declared.method.PlatformMethod.{PlatformMethod}
use Rattle.builtin_table.specs.declared.method.PlatformMethod.TheVariants as P
use Rattle.heap_methods.specs.Methods.{method, units}
use Rattle.platform_errors.specs.declared.thrown.Thrown.TheVariants.{NullObject}
use Rattle.heap_methods.specs.Outcomes.{Outcome, Done, Answers, Throws, done as things_done, units_of}
use Rattle.apex_meaning.specs.Builtins.{cell_in, first_of, rest_of}
use Rattle.apex_meaning.specs.Exceptions.{Kind, Nothing, BuiltIn, Declared, kind_of_thing, message_of_thing}
use Rattle.limit_meter.specs.Charges.{count_of, limit_of}
use Rattle.request_states.specs.Values.{null}
use Rattle.txn_heap.specs.Guards.{guard_of, takes_error, with_error}
use Rattle.txn_heap.specs.declared.thing.Thing.{Thing}
use Rattle.txn_heap.specs.declared.thing.Value.{Value}
use Rattle.txn_heap.specs.declared.thing.Value.TheVariants.{Plain, Object}
use Rattle.typed_program.specs.declared.expr.Conversion.{Conversion}
use Rattle.typed_program.specs.declared.expr.Number.{Number}
use Rattle.typed_program.specs.declared.expr.StepKind.{StepKind}
use Rattle.typed_program.specs.declared.expr.TypedOp.{TypedOp}
use Rattle.typed_program.specs.declared.expr.TypedOp.TheVariants as Op
use Rattle.value_operators.specs.Operators.{Calc, applied, joined, stepped}
use Rattle.value_operators.specs.declared.calculated.Calculated.TheVariants.{Val, Fails}
use Rattle.stack_code.specs.declared.code.Slot.TheVariants as S
use Rattle.stack_code.specs.declared.image.Image.{Image}
use Rattle.stack_code.specs.declared.state.Config.{Config}
use Rattle.stack_code.specs.declared.state.World.{World}
use Rattle.stack_code.specs.Machine.{Next, charged, charged_if, next, on_calc, on_taken, on_top, raise, taken, with_heap}
use Rattle.stack_code.specs.Steps.{operator_next, save_next, seen_next}
use Rattle.stack_code.specs.Things.{answered_next, builtin_next, cast_if, cast_next, cells_next, collection, copied_next, done_next, error_next, if_exception, if_takes_error, make_for, message_added, message_next, name_of_kind, on_exception, platform_next, set_message, set_next, sized_next, stored, text_next}
use Rattle.program_things.specs.Kinds.{cast_fits}
use Rattle.program_things.specs.Steps.{Takes}
use Rattle.program_things.specs.Variables.{element, item_fetched, item_got, item_stepped}
use Rattle.program_things.proofs.Lists.{taken_two}

-- the same state with other operands, and in another world
abbrev pub with_stack : Config → List Value → Config
with_stack c s = record c { top = record (c.top) { stack = s } }

abbrev pub in_world : Config → World → Config
in_world c w = record c { world = w }

-- ---- charges

pub charged_alike : (k : LimitKind) (n : ℕ) (c : Config) (s : List Value) (go on : Config → Next) → ((w : World) → go (in_world c w) ≡ on (in_world (with_stack c s) w)) → charged k n c go ≡ charged k n (with_stack c s) on
charged_alike k n c s go on h = by (leb (count_of c.world.txn.meter k + n) (limit_of k)) where
  by : (b : Bool) → charged_if b k n c go ≡ charged_if b k n (with_stack c s) on
  by true = h _
  by false = refl

pub make_alike : (n : ℕ) (thing : Thing) (c : Config) (s stack : List Value) → make_for n thing c stack ≡ make_for n thing (with_stack c s) stack
make_alike n thing c s stack = charged_alike K.Alloc n c s _ _ (λ w. refl)

pub text_alike : (text : List ℕ) (c : Config) (s stack : List Value) → text_next text c stack ≡ text_next text (with_stack c s) stack
text_alike text c s stack = charged_alike K.Alloc (16 + length text) c s _ _ (λ w. refl)

-- ---- operators

pub calc_alike : (r : Calc) (c : Config) (s : List Value) (go on : Value → Next) → ((v : Value) → go v ≡ on v) → on_calc r c go ≡ on_calc r (with_stack c s) on
calc_alike (Val v) c s go on h = h v
calc_alike (Fails t) c s go on h = refl

pub operator_alike : (left : Conversion) (op : TypedOp) (right : Conversion) (v w : Value) (c : Config) (s stack : List Value) → operator_next left op right v w c stack ≡ operator_next left op right v w (with_stack c s) stack
operator_alike left Op.Join right v w c s stack = text_alike (joined v w) c s stack
operator_alike left (Op.Arithmetic a n) right v w c s stack = calc_alike (applied left (Op.Arithmetic a n) right v w) c s _ _ (λ x. refl)
operator_alike left Op.Equal right v w c s stack = calc_alike (applied left Op.Equal right v w) c s _ _ (λ x. refl)
operator_alike left Op.Differs right v w c s stack = calc_alike (applied left Op.Differs right v w) c s _ _ (λ x. refl)
operator_alike left (Op.Order o) right v w c s stack = calc_alike (applied left (Op.Order o) right v w) c s _ _ (λ x. refl)
operator_alike left Op.And right v w c s stack = calc_alike (applied left Op.And right v w) c s _ _ (λ x. refl)
operator_alike left Op.Or right v w c s stack = calc_alike (applied left Op.Or right v w) c s _ _ (λ x. refl)

-- ---- the value on top

pub top_is : (stack rest : List Value) (v : Value) (go : Value → List Value → Next) → Takes stack v rest → on_top stack go ≡ go v rest
top_is [] rest v go h = ap (λ x. go x []) (sym h.0) ∙ ap (λ s. go v s) (sym h.1)
top_is (x ∷ xs) rest v go h = ap (λ y. go y xs) (sym h.0) ∙ ap (λ s. go v s) (sym h.1)

pub taken_is : (n : ℕ) (stack rest vs : List Value) (go : List Value → List Value → Next) → taken n stack [] ≡ (vs, rest) → on_taken n stack go ≡ go vs rest
taken_is n stack rest vs go e = ap (λ p. go p.0 p.1) e

pub calculate_is : (left : Conversion) (op : TypedOp) (right : Conversion) (v w : Value) (c : Config) (mid rest : List Value) → Takes c.top.stack w mid → Takes mid v rest →
    on_top c.top.stack (λ y more. on_top more (λ x stack. operator_next left op right x y c stack)) ≡ operator_next left op right v w (with_stack c rest) rest
calculate_is left op right v w c mid rest t u =
    top_is c.top.stack mid w (λ y more. on_top more (λ x stack. operator_next left op right x y c stack)) t
    ∙ top_is mid rest v (λ x stack. operator_next left op right x w c stack) u
    ∙ operator_alike left op right v w c rest rest

-- ---- collections

pub done_alike : (d : Done) (c : Config) (s : List Value) (go on : Value → Config → Next) → ((v : Value) (w : World) → go v (in_world c w) ≡ on v (in_world (with_stack c s) w)) → done_next d c go ≡ done_next d (with_stack c s) on
done_alike (Answers v heap) c s go on h = h v _
done_alike (Throws k text) c s go on h = refl

pub collection_alike : (which : Which) (this : Value) (args : List Value) (c : Config) (s : List Value) (go on : Value → Config → Next) → ((v : Value) (w : World) → go v (in_world c w) ≡ on v (in_world (with_stack c s) w)) →
    collection which this args c go ≡ collection which this args (with_stack c s) on
collection_alike which (Plain k) args c s go on h = refl
collection_alike which (Object r) args c s go on h =
    charged_alike K.Alloc (units which r.place args c.world.heap) c s _ _ (λ w. done_alike (method which r.place args w.heap) (in_world c w) s go on (λ v u. h v u))

pub copied_alike : (o : Outcome) (c : Config) (s stack : List Value) → copied_next o c stack ≡ copied_next o (with_stack c s) stack
copied_alike o c s stack = charged_alike K.Alloc (units_of None o) c s _ _ (λ w. done_alike (things_done 0 w.heap o) (in_world c w) s _ _ (λ v u. refl))

abbrev at_two : Value → Value → List Value
at_two list at = list ∷ at ∷ []

pub get_item_is : (c : Config) (list at : Value) (mid rest : List Value) → Takes c.top.stack at mid → Takes mid list rest →
    item_got c ≡ element list at (with_stack c rest) (λ v d. next d (v ∷ rest))
get_item_is c list at mid rest t u =
    taken_is 2 c.top.stack rest (list ∷ at ∷ []) (λ ps stack. element (first_of ps) (first_of (rest_of ps)) c (λ v d. next d (v ∷ stack))) (taken_two c.top.stack mid rest list at t u)
    ∙ collection_alike (B.List L.Get) list (at ∷ []) c rest _ _ (λ v w. refl)

pub fetch_item_is : (c : Config) (list at : Value) (mid rest : List Value) → c.top.stack ≡ at ∷ mid → mid ≡ list ∷ rest →
    item_fetched c ≡ element list at (with_stack c rest) (λ v d. next d (v ∷ at ∷ list ∷ rest))
fetch_item_is c list at mid rest e f =
    let all : c.top.stack ≡ at ∷ list ∷ rest = e ∙ ap (λ s. at ∷ s) f in
    taken_is 2 c.top.stack rest (list ∷ at ∷ []) (λ ps stack. element (first_of ps) (first_of (rest_of ps)) c (λ v d. next d (v ∷ d.top.stack))) (ap (λ s. taken 2 s []) all)
    ∙ collection_alike (B.List L.Get) list (at ∷ []) c rest _ _ (λ v w. ap (λ s. next (in_world c w) (v ∷ s)) all)

pub set_item_is : (c : Config) (list at value : Value) (under mid rest : List Value) → Takes c.top.stack value under → Takes under at mid → Takes mid list rest →
    set_next S.Item c ≡ stored S.Item (list ∷ at ∷ []) value (with_stack c rest) (λ d. next d (value ∷ rest))
set_item_is c list at value under mid rest s t u =
    top_is c.top.stack under value (λ v below. on_taken 2 below (λ ps stack. stored S.Item ps v c (λ d. next d (v ∷ stack)))) s
    ∙ taken_is 2 under rest (list ∷ at ∷ []) (λ ps stack. stored S.Item ps value c (λ d. next d (value ∷ stack))) (taken_two under mid rest list at t u)
    ∙ collection_alike (B.List L.Set) list (at ∷ value ∷ []) c rest _ _ (λ v w. refl)

pub change_item_is : (kind : StepKind) (n : Number) (c : Config) (list at : Value) (mid rest : List Value) → Takes c.top.stack at mid → Takes mid list rest →
    item_stepped kind n c ≡ element list at (with_stack c rest) (λ old d. on_calc (stepped kind.up n old) d (λ new. stored S.Item (list ∷ at ∷ []) new d (λ e. next e (cond kind.before new old ∷ rest))))
change_item_is kind n c list at mid rest t u =
    taken_is 2 c.top.stack rest (list ∷ at ∷ []) (λ ps stack. element (first_of ps) (first_of (rest_of ps)) c (λ old d. on_calc (stepped kind.up n old) d (λ new. stored S.Item ps new d (λ e. next e (cond kind.before new old ∷ stack))))) (taken_two c.top.stack mid rest list at t u)
    ∙ collection_alike (B.List L.Get) list (at ∷ []) c rest _ _
    (λ old w. calc_alike (stepped kind.up n old) (in_world c w) rest _ _ (λ new. collection_alike (B.List L.Set) list (at ∷ new ∷ []) (in_world c w) rest _ _ (λ v x. refl)))

-- ---- casts

pub cast_is : (good : Kind → Bool) (v : Value) (c : Config) (s stack : List Value) → cast_next good v c stack ≡ cast_if (cast_fits good v c.world.heap) v (with_stack c s) stack
cast_is good (Plain k) c s stack = refl
cast_is good (Object r) c s stack = by (good (kind_of_thing (slice_get c.world.heap r.place))) where
  by : (b : Bool) → cast_if b (Object r) c stack ≡ cast_if b (Object r) (with_stack c s) stack
  by true = refl
  by false = refl

-- ---- built-in methods

answered_alike : (a : Answer) (c : Config) (s stack : List Value) → answered_next a c stack ≡ answered_next a (with_stack c s) stack
answered_alike (Answer.Gives cell) c s stack = refl
answered_alike (Answer.Throws k text) c s stack = refl

sized_alike : (size : Option ℕ) (c : Config) (s : List Value) (go on : Config → Next) → ((w : World) → go (in_world c w) ≡ on (in_world (with_stack c s) w)) → sized_next size c go ≡ sized_next size (with_stack c s) on
sized_alike None c s go on h = h c.world
sized_alike (Some n) c s go on h = charged_alike K.Alloc (16 + n) c s go on h

cells_alike : (which : Which) (cells : List Cell) (c : Config) (s stack : List Value) → cells_next which cells c stack ≡ cells_next which cells (with_stack c s) stack
cells_alike which cells c s stack = sized_alike (sized (meaning which cells)) c s _ _ (λ w. answered_alike (meaning which cells) (in_world c w) s stack)

message_alike : (m : Cell) (c : Config) (s stack : List Value) → message_next m c stack ≡ message_next m (with_stack c s) stack
message_alike (C.Text t) c s stack = text_alike t c s stack
message_alike C.Null c s stack = refl
message_alike (C.Bool b) c s stack = refl
message_alike (C.Whole n) c s stack = refl
message_alike (C.Num d) c s stack = refl
message_alike (C.Id i) c s stack = refl
message_alike (C.Day n) c s stack = refl
message_alike (C.Moment n) c s stack = refl

if_alike : (k : Kind) (c : Config) (s : List Value) (go on : Next) → go ≡ on → if_exception k c go ≡ if_exception k (with_stack c s) on
if_alike Nothing c s go on h = refl
if_alike (BuiltIn e) c s go on h = h
if_alike (Declared d) c s go on h = h

exception_alike : (v : Value) (c : Config) (s : List Value) (go on : Option Thing → Next) → ((t : Option Thing) → go t ≡ on t) → on_exception v c go ≡ on_exception v (with_stack c s) on
exception_alike (Plain k) c s go on h = refl
exception_alike (Object r) c s go on h = if_alike (kind_of_thing (slice_get c.world.heap r.place)) c s _ _ (h (slice_get c.world.heap r.place))

module _ (ticket : Ticket) (image : Image) where
  added_alike : (message : Cell) (place : ℕ) (c : Config) (s stack : List Value) → message_added message place c stack ≡ message_added message place (with_stack c s) stack
  added_alike (C.Text t) place c s stack = by (takes_error (guard_of c.world.heap place)) where
    by : (b : Bool) → if_takes_error b c (next (with_heap c (with_error place t c.world.heap)) (null ∷ stack)) ≡ if_takes_error b (with_stack c s) (next (with_heap (with_stack c s) (with_error place t c.world.heap)) (null ∷ stack))
    by true = refl
    by false = refl
  added_alike cell place c s stack = refl

  error_alike : (on message : Value) (c : Config) (s stack : List Value) → error_next on message c stack ≡ error_next on message (with_stack c s) stack
  error_alike (Plain k) message c s stack = refl
  error_alike (Object r) message c s stack = added_alike (cell_in message) r.place c s stack

  platform_alike : (m : PlatformMethod) (vs : List Value) (c : Config) (s stack : List Value) → platform_next ticket image m vs c stack ≡ platform_next ticket image m vs (with_stack c s) stack
  platform_alike P.Today vs c s stack = answered_alike (meaning (B.Moment Date) (C.Moment ticket.now ∷ [])) c s stack
  platform_alike P.Message vs c s stack = exception_alike (first_of vs) c s _ _ (λ t. message_alike (message_of_thing t) c s stack)
  platform_alike P.TypeName vs c s stack = exception_alike (first_of vs) c s _ _ (λ t. text_alike (name_of_kind image (kind_of_thing t)) c s stack)
  platform_alike P.AddError vs c s stack = error_alike (first_of vs) (first_of (rest_of vs)) c s stack
  platform_alike _ vs c s stack = refl

  pub builtin_alike : (which : Which) (vs : List Value) (c : Config) (s stack : List Value) → builtin_next ticket image which vs c stack ≡ builtin_next ticket image which vs (with_stack c s) stack
  builtin_alike (B.List m) vs c s stack = collection_alike (B.List m) (first_of vs) (rest_of vs) c s _ _ (λ v w. refl)
  builtin_alike (B.Set m) vs c s stack = collection_alike (B.Set m) (first_of vs) (rest_of vs) c s _ _ (λ v w. refl)
  builtin_alike (B.Map m) vs c s stack = collection_alike (B.Map m) (first_of vs) (rest_of vs) c s _ _ (λ v w. refl)
  builtin_alike B.Join vs c s stack = collection_alike B.Join (first_of vs) (rest_of vs) c s _ _ (λ v w. refl)
  builtin_alike (B.Platform m) vs c s stack = platform_alike m vs c s stack
  builtin_alike which vs c s stack = cells_alike which (map cell_in vs) c s stack

-- ---- messages and saves

pub told_alike : (this : Value) (vs : List Value) (c : Config) (s stack : List Value) → next (set_message this vs c) stack ≡ next (set_message this vs (with_stack c s)) stack
told_alike (Object r) (Plain m ∷ vs) c s stack = refl
told_alike (Object r) (Object q ∷ vs) c s stack = refl
told_alike (Object r) [] c s stack = refl
told_alike (Plain k) vs c s stack = refl

pub save_alike : (op : Operation) (r : Option (ℕ × List ℕ)) (c : Config) (s stack : List Value) → save_next op r c stack ≡ save_next op r (with_stack c s) stack
save_alike op None c s stack = refl
save_alike op (Some r) c s stack = refl

pub seen_alike : (found : Option (List Value)) (v : Value) (c : Config) (s stack : List Value) → seen_next found v c stack ≡ seen_next found v (with_stack c s) stack
seen_alike None v c s stack = refl
seen_alike (Some items) v c s stack = refl

pub seen : (found : Option (List Value)) (v : Value) (c : Config) (stack : List Value) → is_some found ≡ true → seen_next found v c stack ≡ next c (v ∷ stack)
seen None v c stack e = cc
seen (Some items) v c stack e = refl

pub not_seen : (found : Option (List Value)) (v : Value) (c : Config) (stack : List Value) → is_some found ≡ false → seen_next found v c stack ≡ raise NullObject c
not_seen None v c stack e = refl
not_seen (Some items) v c stack e = cc
