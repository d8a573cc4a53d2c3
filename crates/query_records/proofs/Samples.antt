-- Shapes and records by hand.
use Rattle.std.proofs.Common.{◌≡◌, refl, ap, ℕ, List, [], ◌∷◌, false, map, codes, None, Some}
use Rattle.std.specs.Prelude.{slice_get, slice_index_or}
use Rattle.apex_num.specs.declared.cell.Cell.{Cell}
use Rattle.apex_num.specs.declared.cell.Cell.TheVariants.{Null, Text, Id}
use Rattle.apex_schema.specs.declared.schema.Access.TheVariants.{Edit}
use Rattle.apex_schema.specs.declared.schema.Field.{Field}
use Rattle.apex_schema.specs.declared.schema.FieldKind.TheVariants as Kind
use Rattle.apex_schema.specs.declared.schema.Object.{Object as TheObject}
use Rattle.apex_schema.specs.declared.schema.Schema.{Schema}
use Rattle.apex_rows.specs.declared.query.Path.{Path}
use Rattle.apex_rows.specs.declared.row.Child.{Child}
use Rattle.apex_rows.specs.declared.row.Found.{Found}
use Rattle.txn_heap.specs.declared.thing.Thing.{Thing}
use Rattle.txn_heap.specs.declared.thing.Thing.TheVariants as T
use Rattle.txn_heap.specs.declared.thing.Value.{Value}
use Rattle.txn_heap.specs.declared.thing.Value.TheVariants.{Plain, Object}
use Rattle.row_meaning.specs.Queries.{object_leads}
use Rattle.query_records.specs.Records.{and_then, Leads, leads, over_step, over_made, records_made}
use Rattle.query_records.specs.Shapes.{ways, with_ids, shape_of}
use Rattle.query_records.specs.declared.shape.FoundShape.{FoundShape}
use Rattle.query_records.specs.declared.shape.Given.{Given}
use Rattle.query_records.specs.declared.shape.Over.{Over}
use Rattle.query_records.specs.declared.shape.Over.TheOpen.{Over-F}
use Rattle.query_records.specs.declared.shape.Over.TheFolds.{fold-roll-Over}
use Rattle.query_records.specs.declared.shape.Over.TheViews.{roll-Over}

-- ---- shapes

abbrev path : List ℕ → ℕ → Path
path parents field = record { parents = parents; field = field }

-- Name, A.Name, A.B.Id, A.B.C.Name and D.Name, where Id is field 0, Name 2, A 3, B 4, C 5 and D 6
abbrev selected : List Path
selected = path [] 2 ∷ path (3 ∷ []) 2 ∷ path (3 ∷ 4 ∷ []) 0 ∷ path (3 ∷ 4 ∷ 5 ∷ []) 2 ∷ path (6 ∷ []) 2 ∷ []

-- A, A.B, A.B.C and D are followed
followed : ways selected ≡ path [] 3 ∷ path (3 ∷ []) 4 ∷ path (3 ∷ 4 ∷ []) 5 ∷ path [] 6 ∷ []
followed = refl

-- so A.Id, A.B.Id, A.B.C.Id and D.Id are found in front of the five
found : with_ids selected ≡ path (3 ∷ []) 0 ∷ path (3 ∷ 4 ∷ []) 0 ∷ path (3 ∷ 4 ∷ 5 ∷ []) 0 ∷ path (6 ∷ []) 0 ∷ selected
found = refl

abbrev over : ℕ → ℕ → List Given → List Over → Over
over field id cells more = roll-Over (record { field = field; id = id; cells = cells; over = more })

abbrev given : ℕ → ℕ → Given
given field place = record { field = field; place = place }

-- the row knows its Id and Name; A its Name, B its Id, C its Name, and D its Name, which stand behind the four Ids
own : (shape_of selected).own ≡ 0 ∷ 2 ∷ []
own = refl

overs : (shape_of selected).over
    ≡ over 3 0 (given 2 4 ∷ []) (over 4 1 (given 0 5 ∷ []) (over 5 2 (given 2 6 ∷ []) [] ∷ []) ∷ [])
    ∷ over 6 3 (given 2 7 ∷ []) [] ∷ []
overs = refl

-- with D.Name in front and twice, D stands in front of A, and both of the places of its Name are read
abbrev twice : List Path
twice = path (6 ∷ []) 2 ∷ path (3 ∷ []) 2 ∷ path (6 ∷ []) 2 ∷ []

overs_twice : (shape_of twice).over ≡ over 6 0 (given 2 2 ∷ given 2 4 ∷ []) [] ∷ over 3 1 (given 2 3 ∷ []) [] ∷ []
overs_twice = refl

-- ---- records

abbrev field : List ℕ → Field
field name = record { name = name; kind = Kind.Text 80; required = false }

abbrev lookup : List ℕ → ℕ → Field
lookup name to = record { name = name; kind = Kind.Lookup (record { to = to; relation = codes "Up"; children = codes "Down" }); required = false }

abbrev object : List ℕ → List Field → TheObject
object name fields = record {
  name = name;
  prefix = codes "a00";
  default = Edit;
  heads = [];
  rules = [];
  fields = record { name = codes "Id"; kind = Kind.Id; required = false } ∷ record { name = codes "OwnerId"; kind = Kind.Id; required = false } ∷ fields;
}

-- a line leads to a payer and to a backer, and parts lead to a line
abbrev schema : Schema
schema = record {
  roles = [];
  users = [];
  objects =
      object (codes "Line") (field (codes "Name") ∷ lookup (codes "Payer") 1 ∷ lookup (codes "Backer") 1 ∷ []) ∷ object (codes "Account") (field (codes "Name") ∷ [])
      ∷ object (codes "Part") (lookup (codes "Line") 0 ∷ []) ∷ [];
}

-- the lines with Name, Payer.Name and Backer.Name, and their parts
abbrev shape : FoundShape
shape = record {
  row = shape_of (path [] 2 ∷ path (3 ∷ []) 2 ∷ path (4 ∷ []) 2 ∷ []);
  children = record { object = 2; lookup = 2; row = shape_of [] } ∷ [];
}

abbrev a_line : List (List Child) → Found
a_line children = record {
  row = record { object = 0; id = codes "line"; cells = Id (codes "line") ∷ Id (codes "user") ∷ Text (codes "one") ∷ Id (codes "payer") ∷ Null ∷ [] };
  paths = Id (codes "payer") ∷ Null ∷ Text (codes "Ann") ∷ Null ∷ [];
  children = children;
}

abbrev a_part : Child
a_part = record { row = record { object = 2; id = codes "part"; cells = Id (codes "part") ∷ Id (codes "user") ∷ Id (codes "line") ∷ [] }; paths = [] }

-- what a record leads to by a field, one step
step : (schema : Schema) (paths : List Cell) (o : Over-F Over) (object : ℕ) (things : List Thing) →
    over_made schema paths (roll-Over o) object things
    ≡ and_then (leads schema paths (object_leads (slice_get schema.objects object) o.field) (slice_index_or paths o.id Null) o.cells (map (over_made schema paths) o.over) things) (λ v rest.
    (record { field = o.field; value = v }, rest))
step schema paths o object things = ap (λ f. f object things) (fold-roll-Over (Leads schema paths) (over_step schema paths) o)

abbrev thing : ℕ → Value
thing place = Object (record { place = place })

-- the part and the list of it, then the payer, the line, and the list of lines; there is no backer
made : records_made schema shape (a_line ((a_part ∷ []) ∷ []) ∷ []) []
    ≡ (
      thing 4,
      T.Record (record { object = 2; cells = Some (Id (codes "part")) ∷ None ∷ None ∷ []; selected = Some (record { parents = []; children = [] }) })
          ∷ T.List (thing 0 ∷ [])
          ∷ T.Record (record { object = 1; cells = None ∷ None ∷ Some (Text (codes "Ann")) ∷ []; selected = Some (record { parents = []; children = [] }) })
          ∷ T.Record (record {
            object = 0;
            cells = Some (Id (codes "line")) ∷ None ∷ Some (Text (codes "one")) ∷ None ∷ None ∷ [];
            selected = Some (record {
              parents = record { field = 3; value = thing 2 } ∷ record { field = 4; value = Plain Null } ∷ [];
              children = record { object = 2; field = 2; list = thing 1 } ∷ [];
            });
          })
          ∷ T.List (thing 3 ∷ []) ∷ [],
    )
made = simp step refl

-- nothing was found: an empty list behind what is there
none : records_made schema shape [] (T.List [] ∷ []) ≡ (thing 1, T.List [] ∷ T.List [] ∷ [])
none = refl
