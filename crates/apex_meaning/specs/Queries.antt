-- Queries in code (docs/language.md, "Queries in code").
use Rattle.std.specs.Prelude.{ℕ, pos, List, [], ◌∷◌, Option, None, Some}
use Rattle.apex_num.specs.declared.cell.Cell.{Cell}
use Rattle.apex_num.specs.declared.cell.Cell.TheVariants as C
use Rattle.apex_rows.specs.declared.query.Bind.{Bind}
use Rattle.apex_rows.specs.declared.query.Bind.TheVariants as Given
use Rattle.platform_errors.specs.declared.thrown.Thrown.{Thrown}
use Rattle.platform_errors.specs.declared.thrown.Thrown.TheVariants.{NullObject}
use Rattle.save_meaning.specs.Results.{Gives, bind}
use Rattle.save_meaning.specs.Sites.{Site}
use Rattle.query_meaning.specs.Queries.{Answered, Counted, Listed, query}
use Rattle.query_records.specs.Records.{records_made}
use Rattle.query_records.specs.declared.bind.BindKind.{BindKind}
use Rattle.query_records.specs.declared.bind.BindKind.TheVariants.{One, Many}
use Rattle.query_records.specs.declared.shape.FoundShape.{FoundShape}
use Rattle.query_records.specs.declared.shape.Queried.{Queried}
use Rattle.request_states.specs.States.{State, Res, keeps, saved, throws, with_heap}
use Rattle.txn_heap.specs.declared.thing.Thing.{Thing}
use Rattle.txn_heap.specs.declared.thing.Value.{Value}
use Rattle.txn_heap.specs.declared.thing.Value.TheVariants.{Plain}
use Rattle.typed_program.specs.declared.expr.Conversion.{Conversion}
use Rattle.value_operators.specs.Operators.{Calc, converted}
use Rattle.value_operators.specs.declared.calculated.Calculated.TheVariants.{Val, Fails}
use Rattle.apex_meaning.specs.Builtins.{cell_in}
use Rattle.apex_meaning.specs.Collections.{items_of}
use Rattle.apex_meaning.specs.Meanings.{Run}

-- a list or a set behind IN is looked at in its place among the binds: a null one throws; its items are those that it has when
-- all binds were evaluated
abbrev pub seen_items : Option (List Value) → Value → Run
seen_items None v st = throws NullObject st
seen_items (Some vs) v st = Gives v st

abbrev pub seen : Value → Run
seen v st = seen_items (items_of v st.world.heap) v st

-- ---- the values of binds, once all were evaluated

-- they are given, or something is thrown in their place
pub data Bound (A : Type 0) : Type 0 where
  Has : A → Bound A
  Throws : Thrown → Bound A

abbrev pub then_bound : {A B : Type 0} → Bound A → (A → Bound B) → Bound B
then_bound (Has a) go = go a
then_bound (Throws t) go = Throws t

abbrev pub cell_bound : Calc → Bound Cell
cell_bound (Val v) = Has (cell_in v)
cell_bound (Fails t) = Throws t

-- the items of a list or a set, each converted
abbrev pub cells_bound : Conversion → List Value → Bound (List Cell)
cells_bound how [] = Has []
cells_bound how (v ∷ vs) = then_bound (cell_bound (converted how v)) (λ c. then_bound (cells_bound how vs) (λ cs. Has (c ∷ cs)))

-- a null list or set throws
abbrev pub items_bound : Conversion → Option (List Value) → Bound Bind
items_bound how None = Throws NullObject
items_bound how (Some vs) = then_bound (cells_bound how vs) (λ cs. Has (Given.Many cs))

abbrev pub bound : BindKind → Value → List Thing → Bound Bind
bound One v heap = Has (Given.One (cell_in v))
bound (Many how) v heap = items_bound how (items_of v heap)

-- in the order of the text
abbrev pub all_bound : List BindKind → List Value → List Thing → Bound (List Bind)
all_bound [] vs heap = Has []
all_bound (k ∷ ks) [] heap = Has []
all_bound (k ∷ ks) (v ∷ vs) heap = then_bound (bound k v heap) (λ b. then_bound (all_bound ks vs heap) (λ bs. Has (b ∷ bs)))

-- ---- queries

abbrev pub with_things : Value × List Thing → Run
with_things p st = Gives p.0 (with_heap p.1 st)

module _ (site : Site) where
  -- COUNT() is a number, and any other query a new list of new records
  abbrev pub answered : FoundShape → Answered → Run
  answered shape (Counted n) st = Gives (Plain (C.Whole (pos n))) st
  answered shape (Listed found) st = with_things (records_made site.schema shape found st.world.heap) st

  -- a query in the mode of its activation
  abbrev pub queried_with : Queried → List Bind → Run
  queried_with q binds st = bind (saved (query keeps site st.here.mode binds q.query st)) (answered q.shape)

  abbrev pub on_bound : Queried → Bound (List Bind) → Run
  on_bound q (Has binds) st = queried_with q binds st
  on_bound q (Throws t) st = throws t st
