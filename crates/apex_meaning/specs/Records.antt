-- What records know, and what a query gave with them (docs/language.md, "Records").
use Rattle.std.specs.Prelude.{ℕ, ◌&&◌, eqb, Bool, true, false, cond, List, [], ◌∷◌, slice_get, slice_index_or, Option, None, Some}
use Rattle.apex_num.specs.declared.cell.Cell.{Cell}
use Rattle.apex_schema.specs.declared.schema.Field.{Field}
use Rattle.apex_schema.specs.declared.schema.FieldKind.{FieldKind}
use Rattle.apex_schema.specs.declared.schema.FieldKind.TheVariants.{Lookup, MasterDetail}
use Rattle.apex_schema.specs.declared.schema.Object.{Object as TheObject}
use Rattle.apex_schema.specs.declared.schema.Schema.{Schema}
use Rattle.platform_errors.specs.declared.thrown.Thrown.TheVariants.{NullObject, NotQueried, NoRows, ManyRows}
use Rattle.request_states.specs.Values.{null}
use Rattle.txn_heap.specs.declared.thing.Record.{Record}
use Rattle.txn_heap.specs.declared.thing.Relation.{Relation}
use Rattle.txn_heap.specs.declared.thing.Selected.{Selected}
use Rattle.txn_heap.specs.declared.thing.Thing.{Thing}
use Rattle.txn_heap.specs.declared.thing.Thing.TheVariants as T
use Rattle.txn_heap.specs.declared.thing.Under.{Under}
use Rattle.txn_heap.specs.declared.thing.Value.{Value}
use Rattle.txn_heap.specs.declared.thing.Value.TheVariants.{Plain, Object}
use Rattle.value_operators.specs.Operators.{Calc}
use Rattle.value_operators.specs.declared.calculated.Calculated.TheVariants.{Val, Fails}

-- ---- names

abbrev pub name_of : Option TheObject → List ℕ
name_of None = []
name_of (Some o) = o.name

abbrev pub field_at : Option TheObject → ℕ → Option Field
field_at None field = None
field_at (Some o) field = slice_get o.fields field

abbrev pub field_name : Option Field → List ℕ
field_name None = []
field_name (Some f) = f.name

-- the word that leads from a row to the one that its field names, and the one that leads back
abbrev pub relation_of : FieldKind → List ℕ
relation_of (Lookup link) = link.relation
relation_of (MasterDetail link) = link.relation
relation_of _ = []

abbrev pub children_of : FieldKind → List ℕ
children_of (Lookup link) = link.children
children_of (MasterDetail link) = link.children
children_of _ = []

abbrev pub word_of : (FieldKind → List ℕ) → Option Field → List ℕ
word_of word None = []
word_of word (Some f) = word f.kind

-- ---- what a record gives

-- a null in front of a path: where the path goes on with it, it is what is found
abbrev pub null_in_front : Bool → Calc
null_in_front true = Val null
null_in_front false = Fails NullObject

abbrev pub of_record : (Record → Calc) → Option Thing → Calc
of_record get (Some (T.Record r)) = get r
of_record get _ = Fails NullObject

abbrev pub in_record : (Record → Calc) → Bool → Value → List Thing → Calc
in_record get goes_on (Plain c) heap = null_in_front goes_on
in_record get goes_on (Object r) heap = of_record get (slice_get heap r.place)

module _ (schema : Schema) where
  -- the object of a record, and this word
  abbrev pub unasked : Record → List ℕ → Calc
  unasked r word = Fails (NotQueried (name_of (slice_get schema.objects r.object)) word)

  -- what a record doesn't know is null, and throws where a query gave it
  abbrev pub unknown : Option Selected → Record → List ℕ → Calc
  unknown None r word = Val null
  unknown (Some given) r word = unasked r word

  abbrev pub cell_known : Option Cell → ℕ → Record → Calc
  cell_known (Some c) field r = Val (Plain c)
  cell_known None field r = unknown r.selected r (field_name (field_at (slice_get schema.objects r.object) field))

  -- a cell
  abbrev pub cell_in : ℕ → Bool → Value → List Thing → Calc
  cell_in field goes_on v heap = in_record (λ r. cell_known (slice_index_or r.cells field None) field r) goes_on v heap

  -- the record that a field leads to
  abbrev pub parent_among : List Relation → ℕ → Record → Calc
  parent_among [] field r = unasked r (word_of relation_of (field_at (slice_get schema.objects r.object) field))
  parent_among (p ∷ ps) field r = cond (eqb p.field field) (Val p.value) (parent_among ps field r)

  abbrev pub parent_of : Option Selected → ℕ → Record → Calc
  parent_of None field r = Val null
  parent_of (Some given) field r = parent_among given.parents field r

  abbrev pub parent_in : ℕ → Bool → Value → List Thing → Calc
  parent_in field goes_on v heap = in_record (λ r. parent_of r.selected field r) goes_on v heap

  -- the records of an object under it, by the field that leads to it
  abbrev pub children_among : List Under → ℕ → ℕ → Record → Calc
  children_among [] object field r = unasked r (word_of children_of (field_at (slice_get schema.objects object) field))
  children_among (u ∷ us) object field r = cond (eqb u.object object && eqb u.field field) (Val u.list) (children_among us object field r)

  abbrev pub children_under : Option Selected → ℕ → ℕ → Record → Calc
  children_under None object field r = Val null
  children_under (Some given) object field r = children_among given.children object field r

  abbrev pub children_in : ℕ → ℕ → Bool → Value → List Thing → Calc
  children_in object field goes_on v heap = in_record (λ r. children_under r.selected object field r) goes_on v heap

-- ---- the only record of a list

abbrev pub only_of : Option Thing → Calc
only_of (Some (T.List [])) = Fails NoRows
only_of (Some (T.List (v ∷ []))) = Val v
only_of (Some (T.List (v ∷ w ∷ vs))) = Fails ManyRows
only_of _ = Fails NoRows

abbrev pub only : Value → List Thing → Calc
only (Plain c) heap = Fails NoRows
only (Object r) heap = only_of (slice_get heap r.place)
