-- Which rows a query means, on a whole store (docs/platform.md, "Queries").
use Rattle.std.specs.Prelude.{ℕ, pos, ◌&&◌, not, eqb, Bool, true, false, cond, List, [], ◌∷◌, map, filter, take, drop, slice_get, Option, None, Some}
use Rattle.std.specs.Ordering.{ordering_reverse, ordering_then}
use Rattle.std.specs.declared.cmp.Ordering.{Ordering}
use Rattle.std.specs.declared.cmp.Ordering.TheVariants.{Less, Equal, Greater}
use Rattle.apex_num.specs.declared.cell.Cell.{Cell}
use Rattle.apex_num.specs.declared.cell.Cell.TheVariants.{Null, Whole, Id}
use Rattle.apex_schema.specs.declared.schema.Access.{Access}
use Rattle.apex_schema.specs.declared.schema.Access.TheVariants.{Nothing}
use Rattle.apex_schema.specs.declared.schema.Mode.{Mode}
use Rattle.apex_schema.specs.declared.schema.Mode.TheVariants.{Sharing, Without}
use Rattle.apex_schema.specs.declared.schema.FieldKind.{FieldKind}
use Rattle.apex_schema.specs.declared.schema.FieldKind.TheVariants.{Lookup, MasterDetail}
use Rattle.apex_schema.specs.declared.schema.Field.{Field}
use Rattle.apex_schema.specs.declared.schema.Object.{Object}
use Rattle.apex_schema.specs.declared.schema.Schema.{Schema}
use Rattle.apex_rows.specs.declared.query.Bind.{Bind}
use Rattle.apex_rows.specs.declared.query.Path.{Path}
use Rattle.apex_rows.specs.declared.query.Term.{Term}
use Rattle.apex_rows.specs.declared.query.SortKey.{SortKey}
use Rattle.apex_rows.specs.declared.query.Query.{Query}
use Rattle.apex_rows.specs.declared.query.Query.TheViews.{out-Query, out-SubQuery}
use Rattle.apex_rows.specs.declared.query.SubQuery.{SubQuery}
use Rattle.apex_rows.specs.declared.row.Row.{Row}
use Rattle.apex_rows.specs.declared.row.Child.{Child}
use Rattle.apex_rows.specs.declared.row.Found.{Found}
use Rattle.row_meaning.specs.Cells.{bytes_cmp, cell_cmp, is_null, is_empty}
use Rattle.row_meaning.specs.Conds.{cell_of, term_value, holds}
use Rattle.row_meaning.specs.Stores.{find, of_object}
use Rattle.row_meaning.specs.Accesses.{is_id, access}

-- ---- paths over parents

-- the object that a field leads to
abbrev pub leads_to : FieldKind → Option ℕ
leads_to (Lookup link) = Some link.to
leads_to (MasterDetail link) = Some link.to
leads_to _ = None

abbrev pub field_leads : Option Field → Option ℕ
field_leads None = None
field_leads (Some f) = leads_to f.kind

abbrev pub object_leads : Option Object → ℕ → Option ℕ
object_leads None field = None
object_leads (Some o) field = field_leads (slice_get o.fields field)

-- a row that is of this object
abbrev pub of_this : Option ℕ → Option Row → Option Row
of_this (Some object) (Some r) = cond (eqb r.object object) (Some r) None
of_this _ _ = None

-- the row that a cell names
abbrev pub named : List Row → Cell → Option Row
named rows (Id i) = find rows i
named rows _ = None

-- the row that a field leads to
abbrev pub parent : Schema → List Row → Row → ℕ → Option Row
parent schema rows row field = of_this (object_leads (slice_get schema.objects row.object) field) (named rows (cell_of row field))

-- the row at the end of a path; none where an Id on the way names none
abbrev pub then_from : (Row → Option Row) → Option Row → Option Row
then_from go None = None
then_from go (Some r) = go r

abbrev pub follow : Schema → List Row → List ℕ → Row → Option Row
follow schema rows [] row = Some row
follow schema rows (f ∷ fs) row = then_from (follow schema rows fs) (parent schema rows row f)

abbrev pub end_cell : ℕ → Option Row → Cell
end_cell field None = Null
end_cell field (Some r) = cell_of r field

abbrev pub path_value : Schema → List Row → Row → Path → Cell
path_value schema rows row path = end_cell path.field (follow schema rows path.parents row)

-- ---- order

-- nulls stand first, or last where the text says so, in either direction
abbrev pub with_nulls : Bool → Option Ordering → Bool → Bool → Ordering
with_nulls nulls_last o true true = Equal
with_nulls nulls_last o true false = cond nulls_last Greater Less
with_nulls nulls_last o false true = cond nulls_last Less Greater
with_nulls nulls_last None false false = Equal
with_nulls nulls_last (Some o) false false = o

abbrev pub turned : Bool → Option Ordering → Option Ordering
turned false o = o
turned true None = None
turned true (Some o) = Some (ordering_reverse o)

abbrev pub key_cmp : SortKey → Cell → Cell → Ordering
key_cmp key a b = with_nulls key.nulls_last (turned key.descending (cell_cmp a b)) (is_null a) (is_null b)

-- by the keys, then by Id
abbrev pub row_cmp : (Row → Path → Cell) → List SortKey → Row → Row → Ordering
row_cmp value [] a b = bytes_cmp a.id b.id
row_cmp value (k ∷ ks) a b = ordering_then (key_cmp k (value a k.path) (value b k.path)) (row_cmp value ks a b)

abbrev pub place_by : Ordering → Row → Row → List Row → List Row → List Row
place_by Greater row r rows more = r ∷ more
place_by _ row r rows more = row ∷ r ∷ rows

abbrev pub placed : (Row → Row → Ordering) → Row → List Row → List Row
placed order row [] = row ∷ []
placed order row (r ∷ rows) = place_by (order row r) row r rows (placed order row rows)

abbrev pub sorted : (Row → Row → Ordering) → List Row → List Row
sorted order [] = []
sorted order (r ∷ rows) = placed order r (sorted order rows)

-- ---- LIMIT and OFFSET

abbrev pub whole_of : Cell → Option ℕ
whole_of (Whole (pos n)) = Some n
whole_of _ = None

abbrev pub count_of : List Bind → Option Term → Option ℕ
count_of binds None = None
count_of binds (Some t) = whole_of (term_value binds t)

abbrev pub limited : Option ℕ → List Row → List Row
limited None rows = rows
limited (Some n) rows = take n rows

abbrev pub skipped : Option ℕ → List Row → List Row
skipped None rows = rows
skipped (Some n) rows = drop n rows

-- ---- sharing

abbrev pub is_visible : Access → Bool
is_visible Nothing = false
is_visible _ = true

-- the RowShare rows of a store; RowShare is the object of this number
abbrev pub sees : Schema → ℕ → List Row → Mode → ℕ → Row → Bool
sees schema share rows Without user row = true
sees schema share rows Sharing user row = is_visible (access schema user row (of_object share rows))

-- ---- queries

-- what every query means: the rows of an object that meet a test, its whole condition and sharing, in order and cut
module _ (schema : Schema) (share : ℕ) (rows : List Row) (binds : List Bind) (mode : Mode) (user : ℕ) where
  abbrev pub meant : Query → (Row → Bool) → List Row
  meant q test =
      limited (count_of binds (out-Query q).limit)
      (skipped (count_of binds (out-Query q).offset)
      (sorted (row_cmp (path_value schema rows) (out-Query q).keys)
      (filter (λ (r : Row). test r && (holds binds (path_value schema rows r) (out-Query q).cond && sees schema share rows mode user r)) (of_object (out-Query q).object rows))))

  -- the cells of the selected paths of more than one name
  abbrev pub parent_cells : Query → Row → List Cell
  parent_cells q row = map (path_value schema rows row) (filter (λ (p : Path). not (is_empty p.parents)) (out-Query q).paths)

  abbrev pub children_of : Row → SubQuery → List Child
  children_of row sub = map (λ c. record { row = c; paths = parent_cells (out-SubQuery sub).query c }) (meant (out-SubQuery sub).query (λ c. is_id (cell_of c (out-SubQuery sub).lookup) row.id))

  -- the rows that a query finds
  abbrev pub plain : Query → List Found
  plain q = map (λ r. record { row = r; paths = parent_cells q r; children = map (children_of r) (out-Query q).children }) (meant q (λ r. true))
