-- The records that are made of what a query found (docs/language.md, "Records"). Things that are made stand behind those that
-- are there.
use Rattle.std.specs.Prelude.{ℕ, List, [], ◌∷◌, ◌++◌, length, map, replicate, slice_get, slice_set, slice_index_or, Option, None, Some}
use Rattle.apex_num.specs.declared.cell.Cell.{Cell}
use Rattle.apex_num.specs.declared.cell.Cell.TheVariants.{Null}
use Rattle.apex_rows.specs.declared.row.Child.{Child}
use Rattle.apex_rows.specs.declared.row.Found.{Found}
use Rattle.apex_rows.specs.declared.row.Row.{Row}
use Rattle.apex_schema.specs.declared.schema.Object.{Object as TheObject}
use Rattle.apex_schema.specs.declared.schema.Schema.{Schema}
use Rattle.row_meaning.specs.Queries.{object_leads}
use Rattle.txn_heap.specs.declared.thing.Relation.{Relation}
use Rattle.txn_heap.specs.declared.thing.Selected.{Selected}
use Rattle.txn_heap.specs.declared.thing.Thing.{Thing}
use Rattle.txn_heap.specs.declared.thing.Thing.TheVariants as T
use Rattle.txn_heap.specs.declared.thing.Under.{Under}
use Rattle.txn_heap.specs.declared.thing.Value.{Value}
use Rattle.txn_heap.specs.declared.thing.Value.TheVariants.{Plain, Object}
use Rattle.query_records.specs.declared.shape.ChildShape.{ChildShape}
use Rattle.query_records.specs.declared.shape.FoundShape.{FoundShape}
use Rattle.query_records.specs.declared.shape.Given.{Given}
use Rattle.query_records.specs.declared.shape.Over.{Over}
use Rattle.query_records.specs.declared.shape.Over.TheOpen.{Over-F}
use Rattle.query_records.specs.declared.shape.Over.TheFolds.{fold-Over}
use Rattle.query_records.specs.declared.shape.RowShape.{RowShape}

-- what is made of things, and the things then
abbrev pub Made : Type 0 → Type 0
Made A = List Thing → A × List Thing

abbrev pub and_then : {A B : Type 0} → A × List Thing → (A → Made B) → B × List Thing
and_then p go = go p.0 p.1

-- one behind the other
abbrev pub all_made : {A : Type 0} → List (Made A) → Made (List A)
all_made [] things = ([], things)
all_made (m ∷ ms) things = and_then (m things) (λ a rest. and_then (all_made ms rest) (λ more end. (a ∷ more, end)))

abbrev pub new_thing : Thing → Made Value
new_thing t things = (Object (record { place = length things }), things ++ t ∷ [])

-- ---- cells

abbrev pub width : Option TheObject → ℕ
width None = 0
width (Some o) = length o.fields

abbrev pub no_cells : Schema → ℕ → List (Option Cell)
no_cells schema object = replicate (width (slice_get schema.objects object)) None

-- those of a row's paths
abbrev pub with_given : List Given → List Cell → List (Option Cell) → List (Option Cell)
with_given [] paths cells = cells
with_given (g ∷ gs) paths cells = with_given gs paths (slice_set cells g.field (Some (slice_index_or paths g.place Null)))

-- those of the row itself
abbrev pub with_own : List ℕ → Row → List (Option Cell) → List (Option Cell)
with_own [] row cells = cells
with_own (f ∷ fs) row cells = with_own fs row (slice_set cells f (Some (slice_index_or row.cells f Null)))

-- ---- records over a row

module _ (schema : Schema) (paths : List Cell) where
  -- a record of an object, or null where there is no such object
  abbrev pub Leads : Type 0
  Leads = ℕ → Made Relation

  abbrev pub over_record : List Given → List Relation → ℕ → Made Value
  over_record given links object = new_thing (T.Record (record { object = object; cells = with_given given paths (no_cells schema object); selected = Some (record { parents = links; children = [] }) }))

  abbrev pub leads : Option ℕ → Cell → List Given → List Leads → Made Value
  leads None id given overs things = (Plain Null, things)
  leads (Some object) Null given overs things = (Plain Null, things)
  leads (Some object) id given overs things = and_then (all_made (map (λ (l : Leads). l object) overs) things) (λ links rest. over_record given links object rest)

  -- what a record of an object leads to by a field: null where there is no row of the Id, and its record otherwise
  abbrev pub over_step : Over-F Leads → Leads
  over_step o object things =
      and_then (leads (object_leads (slice_get schema.objects object) o.field) (slice_index_or paths o.id Null) o.cells o.over things) (λ v rest. (record { field = o.field; value = v }, rest))

  abbrev pub over_made : Over → Leads
  over_made = fold-Over Leads over_step

  abbrev pub overs_made : List Over → ℕ → Made (List Relation)
  overs_made overs object = all_made (map (λ (o : Over). over_made o object) overs)

-- ---- records of rows

module _ (schema : Schema) where
  -- the record of a row, with the lists under it
  abbrev pub row_made : RowShape → Row → List Cell → List Under → Made Value
  row_made shape row paths under things =
      and_then (overs_made schema paths shape.over row.object things) (λ links rest.
      new_thing (T.Record (record { object = row.object; cells = with_own shape.own row (no_cells schema row.object); selected = Some (record { parents = links; children = under }) })) rest)

  abbrev pub list_made : List (Made Value) → Made Value
  list_made ms things = and_then (all_made ms things) (λ vs rest. new_thing (T.List vs) rest)

  -- the list of the rows of a subquery under a row
  abbrev pub under_made : ChildShape × List Child → Made Under
  under_made u things =
      and_then (list_made (map (λ (c : Child). row_made u.0.row c.row c.paths []) u.1) things) (λ v rest.
      (record { object = u.0.object; field = u.0.lookup; list = v }, rest))

  abbrev pub paired : List ChildShape → List (List Child) → List (ChildShape × List Child)
  paired [] lists = []
  paired (s ∷ ss) [] = (s, []) ∷ paired ss []
  paired (s ∷ ss) (l ∷ ls) = (s, l) ∷ paired ss ls

  -- the record of a row that was found, behind the lists under it
  abbrev pub found_made : FoundShape → Found → Made Value
  found_made shape found things =
      and_then (all_made (map under_made (paired shape.children found.children)) things) (λ under rest. row_made shape.row found.row found.paths under rest)

  -- the list of the records of what a query found
  abbrev pub records_made : FoundShape → List Found → Made Value
  records_made shape found = list_made (map (found_made shape) found)
