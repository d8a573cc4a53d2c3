-- Classes and interfaces as far as they are walked through (docs/language.md, "Units").
use Rattle.std.specs.Prelude.{◌≡◌, ℕ, Bool, List, [], ◌∷◌, ◌++◌, length, slice_get, Option, None, Some, Result, Ok, Err}
use Rattle.apex_schema.specs.declared.schema.Mode.{Mode}
use Rattle.apex_syntax.specs.declared.unit.ParamTree.{ParamTree}
use Rattle.apex_syntax.specs.declared.word.Word.{Word}
use Rattle.apex_types.specs.Written.{text_of}
use Rattle.class_tables.specs.Lines.{parent_at, interfaces_at}
use Rattle.class_tables.specs.declared.head.ClassHead.{ClassHead}
use Rattle.class_tables.specs.declared.head.Parent.{Parent}
use Rattle.class_tables.specs.declared.head.Parent.TheVariants as P
use Rattle.type_names.specs.declared.fault.WalkFault.{WalkFault}
use Rattle.type_names.specs.Walks.{Walk, Gives, Fails}
use Rattle.typed_program.specs.declared.expr.TypedExpr.{TypedExpr}
use Rattle.typed_program.specs.declared.stmt.TypedStmt.{TypedStmt}
use Rattle.typed_program.specs.declared.unit.ImpliedCall.{ImpliedCall}
use Rattle.typed_program.specs.declared.unit.ParentClass.{ParentClass}
use Rattle.typed_program.specs.declared.unit.ParentClass.TheVariants as C
use Rattle.typed_program.specs.declared.unit.TypedClass.{TypedClass}
use Rattle.typed_program.specs.declared.unit.TypedConstructor.{TypedConstructor}
use Rattle.typed_program.specs.declared.unit.TypedField.{TypedField}
use Rattle.typed_program.specs.declared.unit.TypedMethod.{TypedMethod}

-- ---- what stands in front of its members

abbrev pub extends : Parent → ParentClass
extends P.None = C.Nothing
extends P.Exception = C.Exception
extends (P.Class class) = C.Class class

abbrev pub sharing_or : Option ClassHead → Option Mode
sharing_or (Some head) = head.sharing
sharing_or None = None

-- the class with this number, which is written so, without its members
abbrev pub opened : List ClassHead → ℕ → List ℕ → Option ImpliedCall → TypedClass
opened heads class written implied = record {
  name = text_of written;
  parent = extends (parent_at heads class);
  interfaces = interfaces_at heads class;
  sharing = sharing_or (slice_get heads class);
  implied = implied;
  fields = [];
  methods = [];
  constructors = [];
}

-- ---- and with one member more

abbrev pub with_members : TypedClass → List TypedField → List TypedMethod → List TypedConstructor → TypedClass
with_members c fields methods constructors = record {
  name = c.name;
  parent = c.parent;
  interfaces = c.interfaces;
  sharing = c.sharing;
  implied = c.implied;
  fields = fields;
  methods = methods;
  constructors = constructors;
}

abbrev pub field_of : Bool → Option TypedExpr → TypedField
field_of is_static value = record { is_static = is_static; value = value }

abbrev pub with_field : TypedClass → TypedField → TypedClass
with_field c f = with_members c (c.fields ++ f ∷ []) c.methods c.constructors

abbrev pub method_of : Word → List ParamTree → Bool → Option (List TypedStmt) → TypedMethod
method_of w params is_static body = record { name = w.name; params = length params; is_static = is_static; body = body }

abbrev pub with_method : TypedClass → TypedMethod → TypedClass
with_method c m = with_members c c.fields (c.methods ++ m ∷ []) c.constructors

abbrev pub with_constructor : TypedClass → TypedConstructor → TypedClass
with_constructor c made = with_members c c.fields c.methods (c.constructors ++ made ∷ [])

-- what calls answer that add to something
abbrev pub Grows : {A B : Type 0} → Walk B → Result A WalkFault → B → Type 0
Grows walk (Ok a) c = walk ≡ Gives c
Grows walk (Err fault) c = Fails walk fault
