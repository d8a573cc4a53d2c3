-- Things that are made, one behind the other.
use Rattle.std.specs.Prelude.{ℕ, List, [], ◌++◌, map, slice_get, slice_index_or, Option, None, Some}
use Rattle.apex_num.specs.declared.cell.Cell.{Cell}
use Rattle.apex_num.specs.declared.cell.Cell.TheVariants.{Null}
use Rattle.apex_rows.specs.declared.row.Child.{Child}
use Rattle.apex_schema.specs.declared.schema.Schema.{Schema}
use Rattle.row_meaning.specs.Queries.{object_leads}
use Rattle.txn_heap.specs.declared.thing.Under.{Under}
use Rattle.txn_heap.specs.declared.thing.Value.{Value}
use Rattle.query_records.specs.Records.{Made, and_then, all_made, row_made, under_made, paired}
use Rattle.query_records.specs.declared.shape.ChildShape.{ChildShape}
use Rattle.query_records.specs.declared.shape.Over.{Over}
use Rattle.query_records.specs.declared.shape.Over.TheViews.{out-Over}
use Rattle.query_records.specs.declared.shape.RowShape.{RowShape}

-- what is made behind these
abbrev pub behind_these : {A : Type 0} → List A → List (Made A) → Made (List A)
behind_these done ms things = and_then (all_made ms things) (λ more end. (done ++ more, end))

-- the object of a row; none where there is no Id
abbrev pub there : Option ℕ → Cell → Option ℕ
there None id = None
there (Some object) Null = None
there (Some object) id = Some object

-- the object of the row that a field of an object leads to
abbrev pub object_there : Schema → List Cell → Over → ℕ → Option ℕ
object_there schema paths over object = there (object_leads (slice_get schema.objects object) (out-Over over).field) (slice_index_or paths (out-Over over).id Null)

-- the records of the rows of a subquery
abbrev pub children_made : Schema → RowShape → List Child → Made (List Value)
children_made schema shape children = all_made (map (λ (c : Child). row_made schema shape c.row c.paths []) children)

-- the lists under a row
abbrev pub lists_made : Schema → List ChildShape → List (List Child) → Made (List Under)
lists_made schema shapes lists = all_made (map (under_made schema) (paired schema shapes lists))
