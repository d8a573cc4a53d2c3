-- Rows with their roll-ups, by hand.
use Rattle.std.proofs.Common.{◌≡◌, ℕ, List, [], ◌∷◌, Option, None, Some, false, codes, refl}
use Rattle.std.specs.Prelude.{pos, negsuc}
use Rattle.apex_num.specs.declared.cell.Cell.{Cell}
use Rattle.apex_num.specs.declared.cell.Cell.TheVariants.{Null, Num, Text, Id}
use Rattle.apex_schema.specs.declared.schema.Access.TheVariants.{Edit}
use Rattle.apex_schema.specs.declared.schema.Field.{Field}
use Rattle.apex_schema.specs.declared.schema.FieldKind.{FieldKind}
use Rattle.apex_schema.specs.declared.schema.FieldKind.TheVariants as Kind
use Rattle.apex_schema.specs.declared.schema.Object.{Object}
use Rattle.apex_schema.specs.declared.schema.RollupBy.{RollupBy}
use Rattle.apex_schema.specs.declared.schema.RollupBy.TheVariants.{Count, Sum, Min, Max}
use Rattle.apex_schema.specs.declared.schema.Schema.{Schema}
use Rattle.apex_rows.specs.declared.row.Row.{Row}
use Rattle.rolled_rows.specs.declared.rolled.Rolled.TheVariants.{Cells, OutOfRange}
use Rattle.rolled_rows.specs.RollUps.{rolled_up}

abbrev field : FieldKind → Field
field kind = record { name = []; kind = kind; required = false }

abbrev object : List Field → Object
object fields = record { name = []; prefix = []; default = Edit; fields = field Kind.Id ∷ field Kind.Id ∷ fields; heads = []; rules = [] }

abbrev rollup : RollupBy → Option ℕ → Field
rollup by n = field (Kind.Rollup (record { detail = 1; by = by; field = n }))

abbrev master : ℕ → Field
master to = field (Kind.MasterDetail (record { to = to; relation = []; children = [] }))

-- object 0 has a text and these roll-ups over object 1, whose field 2 is a number and field 3 leads to object 0; so does its
-- field 4, by which nothing is summed; so does field 3 of object 2, over which there is no roll-up
abbrev schema : List Field → Schema
schema fields = record { roles = []; users = []; objects = object (field (Kind.Text 255) ∷ fields) ∷ object (field Kind.Number ∷ master 0 ∷ master 0 ∷ []) ∷ object (field Kind.Number ∷ master 0 ∷ []) ∷ [] }

-- a row of object 0, its roll-ups not computed
abbrev above : List ℕ → List Cell → Row
above id cells = record { object = 0; id = id; cells = Id id ∷ Null ∷ Text [] ∷ cells }

abbrev below : ℕ → List ℕ → Cell → Cell → Row
below object id number names = record { object = object; id = id; cells = Id id ∷ Null ∷ number ∷ names ∷ Id (codes "a") ∷ [] }

abbrev all : List Field
all = rollup Count None ∷ rollup Sum (Some 2) ∷ rollup Min (Some 2) ∷ rollup Max (Some 2) ∷ []

-- two rows of object 1 under row a, one of them without a number; none under row b; one that names no row; one of object 2
abbrev some : List Row
some = below 1 (codes "c") (Num (pos 3000000)) (Id (codes "a")) ∷ below 1 (codes "d") Null (Id (codes "a")) ∷ below 1 (codes "e") (Num (pos 5000000)) Null ∷ below 2 (codes "f") (Num (pos 7000000)) (Id (codes "a")) ∷ []

-- nulls are counted, and otherwise passed over
of_two : rolled_up (schema all) some (above (codes "a") (Null ∷ Null ∷ Null ∷ Null ∷ []))
    ≡ Cells (Id (codes "a") ∷ Null ∷ Text [] ∷ Num (pos 2000000) ∷ Num (pos 3000000) ∷ Num (pos 3000000) ∷ Num (pos 3000000) ∷ [])
of_two = refl

-- what stood there before doesn't count
of_none : rolled_up (schema all) some (above (codes "b") (Num (pos 1) ∷ Num (pos 1) ∷ Num (pos 1) ∷ Null ∷ []))
    ≡ Cells (Id (codes "b") ∷ Null ∷ Text [] ∷ Num (pos 0) ∷ Num (pos 0) ∷ Null ∷ Null ∷ [])
of_none = refl

-- a row of an object without roll-ups stays
stays : rolled_up (schema all) some (below 1 (codes "c") (Num (pos 3000000)) (Id (codes "a"))) ≡ Cells (Id (codes "c") ∷ Null ∷ Num (pos 3000000) ∷ Id (codes "a") ∷ Id (codes "a") ∷ [])
stays = refl

abbrev great : Row
great = below 1 (codes "c") (Num (pos 9999999999999999999)) (Id (codes "a"))

-- the sum of two rows is out of range, and so named; the count and the least aren't
second : rolled_up (schema (rollup Count None ∷ rollup Sum (Some 2) ∷ rollup Sum (Some 2) ∷ [])) (great ∷ great ∷ []) (above (codes "a") (Null ∷ Null ∷ Null ∷ [])) ≡ OutOfRange 4
second = refl

-- with a third row the sum is in range again
back : rolled_up (schema (rollup Sum (Some 2) ∷ [])) (great ∷ great ∷ below 1 (codes "d") (Num (negsuc 9999999999999999998)) (Id (codes "a")) ∷ []) (above (codes "a") (Null ∷ []))
    ≡ Cells (Id (codes "a") ∷ Null ∷ Text [] ∷ Num (pos 9999999999999999999) ∷ [])
back = refl
