-- The roll-ups of a seed's rows, by hand.
use Rattle.std.proofs.Common.{◌≡◌, ℕ, List, [], ◌∷◌, None, Some, false, codes, refl}
use Rattle.std.specs.Prelude.{pos}
use Rattle.apex_num.specs.declared.cell.Cell.{Cell}
use Rattle.apex_num.specs.declared.cell.Cell.TheVariants.{Null, Num, Id}
use Rattle.apex_schema.specs.declared.schema.Access.TheVariants.{Edit}
use Rattle.apex_schema.specs.declared.schema.Field.{Field}
use Rattle.apex_schema.specs.declared.schema.FieldKind.{FieldKind}
use Rattle.apex_schema.specs.declared.schema.FieldKind.TheVariants as Kind
use Rattle.apex_schema.specs.declared.schema.Object.{Object}
use Rattle.apex_schema.specs.declared.schema.RollupBy.TheVariants.{Count, Sum}
use Rattle.apex_schema.specs.declared.schema.Schema.{Schema}
use Rattle.apex_rows.specs.declared.row.Row.{Row}
use Rattle.seed_rows.specs.Seeds.{AreRolled, first_out}

abbrev field : FieldKind → Field
field kind = record { name = []; kind = kind; required = false }

abbrev object : List Field → Object
object fields = record { name = []; prefix = []; default = Edit; fields = field Kind.Id ∷ field Kind.Id ∷ fields; heads = []; rules = [] }

-- object 0 has a count and a sum over object 1, which has a number and a count over object 2
abbrev schema : Schema
schema = record {
  roles = [];
  users = [];
  objects =
      object (field (Kind.Rollup (record { detail = 1; by = Count; field = None })) ∷ field (Kind.Rollup (record { detail = 1; by = Sum; field = Some 2 })) ∷ []) ∷
      object (field Kind.Number ∷ field (Kind.MasterDetail (record { to = 0; relation = []; children = [] })) ∷ field (Kind.Rollup (record { detail = 2; by = Count; field = None })) ∷ []) ∷
      object (field (Kind.MasterDetail (record { to = 1; relation = []; children = [] })) ∷ []) ∷ [];
}

abbrev top : List ℕ → Cell → Cell → Row
top id count sum = record { object = 0; id = id; cells = Id id ∷ Null ∷ count ∷ sum ∷ [] }

abbrev middle : List ℕ → ℕ → List ℕ → Cell → Row
middle id millionths above count = record { object = 1; id = id; cells = Id id ∷ Null ∷ Num (pos millionths) ∷ Id above ∷ count ∷ [] }

abbrev bottom : List ℕ → List ℕ → Row
bottom id above = record { object = 2; id = id; cells = Id id ∷ Null ∷ Id above ∷ [] }

abbrev plain : List Row
plain =
    middle (codes "m1") 2 (codes "t1") Null ∷ top (codes "t1") Null Null ∷ bottom (codes "b1") (codes "m2") ∷ top (codes "t2") Null Null ∷ middle (codes "m2") 3 (codes "t1") Null ∷ []

abbrev rolled : List Row
rolled =
    middle (codes "m1") 2 (codes "t1") (Num (pos 0)) ∷ top (codes "t1") (Num (pos 2000000)) (Num (pos 5)) ∷ bottom (codes "b1") (codes "m2") ∷
    top (codes "t2") (Num (pos 0)) (Num (pos 0)) ∷ middle (codes "m2") 3 (codes "t1") (Num (pos 1000000)) ∷ []

-- rows in front of a row count for it, as do those behind it, and each row keeps its place
each : AreRolled schema plain plain rolled
each = (
  record { object = refl; id = refl; cells = refl },
  (record { object = refl; id = refl; cells = refl }, (record { object = refl; id = refl; cells = refl }, (record { object = refl; id = refl; cells = refl }, (record { object = refl; id = refl; cells = refl }, refl)))),
)

none : first_out schema plain ≡ None
none = refl

abbrev much : ℕ
much = 5000000000000000000

-- of two rows that have a sum out of range it is the one that stands first, whichever details do
first : first_out schema (middle (codes "m1") much (codes "t2") Null ∷ middle (codes "m2") much (codes "t2") Null ∷ middle (codes "m3") much (codes "t1") Null ∷ top (codes "t1") Null Null ∷ middle (codes "m4") much (codes "t1") Null ∷ top (codes "t2") Null Null ∷ []) ≡ Some 3
first = refl
