-- Texts of values by hand.
use Rattle.std.proofs.Common.{◌≡◌, ℕ, refl, true, false, codes, None, Some, List, [], ◌∷◌}
use Rattle.apex_num.specs.declared.cell.Cell.TheVariants as C
use Rattle.apex_schema.specs.declared.schema.Access.TheVariants.{Edit}
use Rattle.apex_schema.specs.declared.schema.FieldKind.TheVariants as Kind
use Rattle.apex_schema.specs.declared.schema.Object.{Object as TheObject}
use Rattle.apex_schema.specs.declared.schema.Schema.{Schema}
use Rattle.builtin_table.specs.declared.exception.ExceptionClass.TheVariants as Class
use Rattle.txn_heap.specs.declared.thing.Guard.TheVariants as G
use Rattle.txn_heap.specs.declared.thing.Thing.{Thing}
use Rattle.txn_heap.specs.declared.thing.Thing.TheVariants as T
use Rattle.txn_heap.specs.declared.thing.Value.{Value}
use Rattle.txn_heap.specs.declared.thing.Value.TheVariants.{Plain, Object}
use Rattle.value_texts.specs.Texts.{text_of, text_within}

abbrev account : TheObject
account = record {
  name = codes "Account";
  prefix = codes "001";
  default = Edit;
  heads = [];
  rules = [];
  fields = record { name = codes "Id"; kind = Kind.Id; required = false } ∷ record { name = codes "Name"; kind = Kind.Text 80; required = true } ∷ record { name = codes "Hot"; kind = Kind.Checkbox; required = false } ∷ [];
}

abbrev schema : Schema
schema = record { roles = []; users = []; objects = account ∷ [] }

abbrev classes : List (List ℕ)
classes = codes "Pair" ∷ codes "myException" ∷ []

abbrev word : Value
word = Plain (C.Text (codes "a"))

-- thing 7 is a list that has itself, and thing 8 guards what stands behind it
abbrev heap : List Thing
heap =
    T.Record (record { object = 0; cells = None ∷ Some (C.Text (codes "b")) ∷ Some (C.Bool true) ∷ []; selected = None })
    ∷ T.List (Plain C.Null ∷ word ∷ Object (record { place = 0 }) ∷ []) ∷ T.Set (C.Text (codes "x") ∷ C.Text (codes "y") ∷ [])
    ∷ T.Map ((C.Text (codes "k"), Object (record { place = 1 })) ∷ (C.Text (codes "l"), word) ∷ []) ∷ T.Instance (record { class = 1; message = C.Null; fields = [] })
    ∷ T.Exception (record { class = Class.Math; message = C.Text (codes "m") }) ∷ T.List [] ∷ T.List (Object (record { place = 7 }) ∷ [])
    ∷ T.Guard (G.Open (Some (codes "e"))) ∷ T.List (word ∷ []) ∷ []

abbrev told : ℕ → List ℕ
told place = text_of schema classes heap (Object (record { place = place }))

-- its known cells in the order of the fields
a_record : told 0 ≡ codes "Account:{Name=b, Hot=true}"
a_record = refl

a_list : told 1 ≡ codes "(null, a, Account:{Name=b, Hot=true})"
a_list = refl

a_set : told 2 ≡ codes "{x, y}"
a_set = refl

a_map : told 3 ≡ codes "{k=(null, a, Account:{Name=b, Hot=true}), l=a}"
a_map = refl

an_instance : told 4 ≡ codes "myException"
an_instance = refl

an_exception : told 5 ≡ codes "MathException"
an_exception = refl

nothing_in_it : told 6 ≡ codes "()"
nothing_in_it = refl

-- each level of the list that has itself has two brackets
endless : text_within 3 schema classes heap (Object (record { place = 7 })) ≡ codes "((()))"
endless = refl

-- a guard shows nothing, and doesn't change the text of what it guards
a_guard : told 8 ≡ []
a_guard = refl

a_guarded_list : told 9 ≡ codes "(a)"
a_guarded_list = refl
