-- The schema that a plan without fault says (docs/platform.md, "Schemas").
--
-- In a plan with a fault something may be missing; then 0, the empty text or COUNT stands here, and it means nothing.
use Rattle.std.specs.Prelude.{◌≡◌, ℕ, ◌+◌, ◌++◌, nat_lt, cond, true, false, List, [], ◌∷◌, map, codes, Option, None, Some, Result, Ok, Err}
use Rattle.schema_plans.specs.declared.plan.SchemaPlan.{SchemaPlan}
use Rattle.schema_plans.specs.declared.plan.RolePlan.{RolePlan}
use Rattle.schema_plans.specs.declared.plan.UserPlan.{UserPlan}
use Rattle.schema_plans.specs.declared.plan.ObjectPlan.{ObjectPlan}
use Rattle.schema_plans.specs.declared.plan.FieldPlan.{FieldPlan}
use Rattle.schema_plans.specs.declared.plan.RulePlan.{RulePlan}
use Rattle.schema_plans.specs.declared.plan.PlanKind.{PlanKind}
use Rattle.schema_plans.specs.declared.plan.PlanKind.TheVariants as Planned
use Rattle.schema_plans.specs.declared.plan.PlanLength.{PlanLength}
use Rattle.schema_plans.specs.declared.plan.PlanLength.TheVariants.{Whole, Other}
use Rattle.apex_schema.specs.declared.schema.Access.TheVariants.{Edit}
use Rattle.apex_schema.specs.declared.schema.Role.{Role}
use Rattle.apex_schema.specs.declared.schema.User.{User}
use Rattle.apex_schema.specs.declared.schema.Link.{Link}
use Rattle.apex_schema.specs.declared.schema.Rollup.{Rollup}
use Rattle.apex_schema.specs.declared.schema.FieldKind.{FieldKind}
use Rattle.apex_schema.specs.declared.schema.FieldKind.TheVariants as Kind
use Rattle.apex_schema.specs.declared.schema.Field.{Field}
use Rattle.apex_schema.specs.declared.schema.RuleHead.{RuleHead}
use Rattle.apex_schema.specs.declared.schema.Object.{Object}
use Rattle.apex_schema.specs.declared.schema.Schema.{Schema}
use Rattle.apex_schema.specs.declared.schema.RollupBy.TheVariants.{Count}
use Rattle.schema_plans.specs.declared.plan_fault.SchemaFault.{SchemaFault}
use Rattle.schema_plans.specs.declared.plan_fault.SchemaFault.TheVariants.{Wrong, NoMemory}
use Rattle.schema_plans.specs.Plans.{named, role_names, target, rollup_of, schema_fault}

-- what these are made to; their numbers go from i on
abbrev pub numbered : {A B : Type 0} → (ℕ → A → B) → ℕ → List A → List B
numbered made i [] = []
numbered made i (x ∷ xs) = made i x ∷ numbered made (i + 1) xs

-- ---- roles and users

abbrev pub role_of : SchemaPlan → RolePlan → Role
role_of plan r = record { name = r.name; parent = named (role_names plan) r.parent }

abbrev pub user_of : SchemaPlan → UserPlan → User
user_of plan u = record { name = u.name; role = named (role_names plan) u.role }

-- ---- fields

abbrev pub number_or : Option ℕ → ℕ
number_or None = 0
number_or (Some n) = n

abbrev pub text_or : Option (List ℕ) → List ℕ
text_or None = []
text_or (Some t) = t

-- a Text is of 255 scalars where no length is given
abbrev pub length_of : Option PlanLength → ℕ
length_of None = 255
length_of (Some (Whole n)) = cond (nat_lt 100000 n) 0 n
length_of (Some Other) = 0

abbrev pub link_of : SchemaPlan → FieldPlan → Link
link_of plan f = record { to = number_or (target plan f); relation = text_or f.relation; children = text_or f.children }

abbrev pub rollup_or : Option Rollup → Rollup
rollup_or None = record { detail = 0; by = Count; field = None }
rollup_or (Some r) = r

abbrev pub kind_as : SchemaPlan → ℕ → FieldPlan → PlanKind → FieldKind
kind_as plan i f Planned.Text = Kind.Text (length_of f.length)
kind_as plan i f Planned.Number = Kind.Number
kind_as plan i f Planned.Checkbox = Kind.Checkbox
kind_as plan i f Planned.Date = Kind.Date
kind_as plan i f Planned.Datetime = Kind.Datetime
kind_as plan i f Planned.Lookup = Kind.Lookup (link_of plan f)
kind_as plan i f Planned.MasterDetail = Kind.MasterDetail (link_of plan f)
kind_as plan i f Planned.Rollup = Kind.Rollup (rollup_or (rollup_of plan i f))

abbrev pub field_of : SchemaPlan → ℕ → FieldPlan → Field
field_of plan i f = record { name = f.name; kind = kind_as plan i f f.kind; required = f.required }

-- ---- objects

-- the fields that each object has, with the numbers 0 and 1
abbrev pub own_fields : List Field
own_fields =
    record { name = codes "Id"; kind = Kind.Id; required = false } ∷
    record { name = codes "OwnerId"; kind = Kind.Id; required = false } ∷ []

abbrev pub head_of : RulePlan → RuleHead
head_of r = record { name = r.name; message = r.message }

-- the formulas come later
abbrev pub object_of : SchemaPlan → ℕ → ObjectPlan → Object
object_of plan i o = record {
  name = o.name;
  prefix = o.prefix;
  default = o.default;
  fields = own_fields ++ map (field_of plan i) o.fields;
  heads = map head_of o.rules;
  rules = [];
}

-- the object that every tenant has
abbrev pub row_share : Object
row_share = record {
  name = codes "RowShare";
  prefix = codes "00r";
  default = Edit;
  fields =
      own_fields ++
      record { name = codes "RowId"; kind = Kind.Id; required = true } ∷
      record { name = codes "UserId"; kind = Kind.Id; required = true } ∷
      record { name = codes "Level"; kind = Kind.Text 4; required = true } ∷ [];
  heads = [];
  rules = [];
}

-- ---- schemas

-- the planned objects in their order, and RowShare behind them
abbrev pub schema_of : SchemaPlan → Schema
schema_of plan = record {
  roles = map (role_of plan) plan.roles;
  users = map (user_of plan) plan.users;
  objects = numbered (object_of plan) 0 plan.objects ++ row_share ∷ [];
}

-- what building a plan tells: its schema where it has no fault, and otherwise the first one; want of memory is free
abbrev pub Builds : SchemaPlan → Result Schema SchemaFault → Type 0
Builds plan (Ok schema) = (schema_fault plan ≡ None) × (schema ≡ schema_of plan)
Builds plan (Err (Wrong fault)) = schema_fault plan ≡ Some fault
Builds plan (Err NoMemory) = Unit {0}
