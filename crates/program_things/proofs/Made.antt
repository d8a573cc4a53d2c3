-- Texts and things that are charged and made.
use Rattle.std.proofs.Common.{◌≡◌, ℕ, ◌+◌, ◌*◌, List, [], ◌∷◌, ◌++◌, length, Option, Some, None, refl, sym, ap, subst, ◌∙◌}
use Rattle.std.specs.Prelude.{slice_get}
use Rattle.apex_num.specs.declared.cell.Cell.{Cell}
use Rattle.apex_num.specs.declared.cell.Cell.TheVariants as C
use Rattle.apex_num.specs.declared.kind.LimitKind.TheVariants.{Alloc}
use Rattle.heap_methods.specs.Making.{map_of, set_of}
use Rattle.heap_methods.specs.Outcomes.{content}
use Rattle.apex_meaning.specs.Exceptions.{Kind, Nothing, BuiltIn, Declared, kind_of_thing, message_of_thing}
use Rattle.platform_errors.specs.declared.thrown.Thrown.TheVariants.{NullObject}
use Rattle.txn_heap.specs.declared.thing.Thing.{Thing}
use Rattle.txn_heap.specs.declared.thing.Thing.TheVariants as T
use Rattle.txn_heap.specs.declared.thing.Value.{Value}
use Rattle.txn_heap.specs.declared.thing.Value.TheVariants.{Plain, Object}
use Rattle.typed_program.specs.declared.expr.CollectionKind.{CollectionKind}
use Rattle.typed_program.specs.declared.expr.CollectionKind.TheVariants as Kinds
use Rattle.stack_code.specs.declared.image.Image.{Image}
use Rattle.stack_code.specs.declared.state.Config.{Config}
use Rattle.stack_code.specs.Machine.{Next, next, raise, with_heap}
use Rattle.stack_code.specs.Things.{entries_next, filled_next, if_exception, make_for, message_next, name_of_kind, on_exception, pairs_of, sized_next, text_next}
use Rattle.program_things.specs.declared.moved.Moved.{Moved}
use Rattle.program_things.specs.Collects.{filled_of, flat}
use Rattle.program_things.specs.Kinds.{if_known, kind_at, message_at, message_in}
use Rattle.program_things.specs.Steps.{Charges, ChargesSize, IsStep}
use Rattle.program_things.proofs.Charged.{behind_paid, charged_over}
use Rattle.program_things.proofs.Lists.{pairs_flat}
use Rattle.program_things.proofs.Same.{make_alike, with_stack}

-- ---- things

pub made_behind : (n : ℕ) (thing : Thing) (c e : Config) → Charges Alloc n c None e → make_for n thing c c.top.stack ≡ next (with_heap e (e.world.heap ++ thing ∷ [])) (Object (record { place = length e.world.heap }) ∷ e.top.stack)
made_behind n thing c e h =
    behind_paid Alloc n c e (λ d. next (with_heap d (d.world.heap ++ thing ∷ [])) (Object (record { place = length d.world.heap }) ∷ c.top.stack)) h
    ∙ ap (λ (x : Config). next (with_heap e (e.world.heap ++ thing ∷ [])) (Object (record { place = length e.world.heap }) ∷ x.top.stack)) (sym h.1)

pub filled_is : (kind : CollectionKind) (vs : List Value) (c : Config) (s stack : List Value) → filled_next kind vs c stack ≡ make_for (32 + content (filled_of kind vs)) (filled_of kind vs) (with_stack c s) stack
filled_is Kinds.List vs c s stack = make_alike (32 + 16 * length vs) (T.List vs) c s stack
filled_is (Kinds.Set p) vs c s stack = make_alike (32 + 16 * length (set_of vs)) (T.Set (set_of vs)) c s stack
filled_is (Kinds.Map p) vs c s stack = make_alike 32 (T.Map []) c s stack

pub entries_is : (ps : List (Value × Value)) (c : Config) (s stack : List Value) → entries_next (flat ps) c stack ≡ make_for (32 + content (T.Map (map_of ps))) (T.Map (map_of ps)) (with_stack c s) stack
entries_is ps c s stack =
    ap (λ qs. make_for (32 + 32 * length (map_of qs)) (T.Map (map_of qs)) c stack) (pairs_flat ps) ∙ make_alike (32 + 32 * length (map_of ps)) (T.Map (map_of ps)) c s stack

-- ---- texts

pub text_behind : (text : List ℕ) (c e : Config) → Charges Alloc (16 + length text) c None e → text_next text c c.top.stack ≡ next e (Plain (C.Text text) ∷ e.top.stack)
text_behind text c e h =
    behind_paid Alloc (16 + length text) c e (λ d. next d (Plain (C.Text text) ∷ c.top.stack)) h
    ∙ ap (λ (x : Config). next e (Plain (C.Text text) ∷ x.top.stack)) (sym h.1)

pub sized_behind : (size : Option ℕ) (c e : Config) (go : Config → Next) → ChargesSize size c None e → sized_next size c go ≡ go e
sized_behind None c e go h = ap go (sym h.1)
sized_behind (Some n) c e go h = behind_paid Alloc (16 + n) c e go h

pub sized_over : (size : Option ℕ) (c : Config) (go : Config → Next) (m : Moved) (d : Config) → ChargesSize size c (Some m) d → IsStep (sized_next size c go) m d
sized_over None c go m d h = absurd (differ h.0) where
  differ : Some m ≡ None → ⊥
  differ e = cc
sized_over (Some n) c go m d h = charged_over Alloc (16 + n) c go m d h

pub sized_top : (size : Option ℕ) (c e : Config) → ChargesSize size c None e → c.top ≡ e.top
sized_top None c e h = sym (ap (λ (x : Config). x.top) h.1)
sized_top (Some n) c e h = sym (ap (λ (x : Config). x.top) h.1)

-- ---- exceptions

pub message_some : (on : Value) (c : Config) (m : Cell) (go : Cell → Next) → message_at on c.world.heap ≡ Some m → on_exception on c (λ t. go (message_of_thing t)) ≡ go m
message_some (Plain k) c m go e = cc
message_some (Object r) c m go e = by (kind_of_thing (slice_get c.world.heap r.place)) (message_of_thing (slice_get c.world.heap r.place)) e where
  by : (k : Kind) (x : Cell) → if_known k x ≡ Some m → if_exception k c (go x) ≡ go m
  by Nothing x e = cc
  by (BuiltIn b) x e = ap go (same x e) where
    same : (x : Cell) → Some x ≡ Some m → x ≡ m
    same x e = cc
  by (Declared b) x e = ap go (same x e) where
    same : (x : Cell) → Some x ≡ Some m → x ≡ m
    same x e = cc

pub message_none : (on : Value) (c : Config) (go : Option Thing → Next) → message_at on c.world.heap ≡ None → on_exception on c go ≡ raise NullObject c
message_none (Plain k) c go e = refl
message_none (Object r) c go e = by (kind_of_thing (slice_get c.world.heap r.place)) (message_of_thing (slice_get c.world.heap r.place)) (go (slice_get c.world.heap r.place)) e where
  by : (k : Kind) (x : Cell) (n : Next) → if_known k x ≡ None → if_exception k c n ≡ raise NullObject c
  by Nothing x n e = refl
  by (BuiltIn b) x n e = cc
  by (Declared b) x n e = cc

pub kind_none : (on : Value) (c : Config) (go : Option Thing → Next) → Nothing ≡ kind_at on c.world.heap → on_exception on c go ≡ raise NullObject c
kind_none (Plain k) c go e = refl
kind_none (Object r) c go e = ap (λ k. if_exception k c (go (slice_get c.world.heap r.place))) (sym e)

pub kind_built_in : (on : Value) (c : Config) (b : _) (go : Kind → Next) → BuiltIn b ≡ kind_at on c.world.heap → on_exception on c (λ t. go (kind_of_thing t)) ≡ go (BuiltIn b)
kind_built_in (Plain k) c b go e = cc
kind_built_in (Object r) c b go e = ap (λ k. if_exception k c (go k)) (sym e)

pub kind_declared : (on : Value) (c : Config) (b : _) (go : Kind → Next) → Declared b ≡ kind_at on c.world.heap → on_exception on c (λ t. go (kind_of_thing t)) ≡ go (Declared b)
kind_declared (Plain k) c b go e = cc
kind_declared (Object r) c b go e = ap (λ k. if_exception k c (go k)) (sym e)
