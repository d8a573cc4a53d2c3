-- What a bundle says, or its first fault (docs/formats.md, "Bundles"): one reading for each row of the table of keys.
use Rattle.std.specs.Prelude.{◌≡◌, ℕ, ◌+◌, ◌++◌, eqb, cond, Bool, false, List, [], ◌∷◌, codes, ℤ, pos, Option, None, Some, Result, Ok, Err, IsUtf8}
use Rattle.serde_json.specs.Data.{Data, Num, null, boolean, number, string, array, object, Items, no_items, item, Members, no_members, member}
use Rattle.serde_json.specs.Find.{get, as_object, as_array, as_str, as_bool, as_number, as_integer}
use Rattle.serde_json.specs.Read.{read}
use Rattle.civil_dates.specs.Texts.{moment_value}
use Rattle.fault_words.specs.declared.fault.Fault.{Fault}
use Rattle.fault_words.specs.declared.fault.FaultWord.TheVariants.{BadValue, Duplicate, NotJson}
use Rattle.apex_schema.specs.declared.schema.Access.{Access}
use Rattle.apex_schema.specs.declared.schema.RollupBy.{RollupBy}
use Rattle.apex_requests.specs.declared.request.Op.{Op}
use Rattle.schema_plans.specs.declared.plan.PlanKind.{PlanKind}
use Rattle.schema_plans.specs.declared.plan.PlanLength.{PlanLength}
use Rattle.schema_plans.specs.declared.plan.SchemaPlan.{SchemaPlan}
use Rattle.schema_plans.specs.declared.plan.RolePlan.{RolePlan}
use Rattle.schema_plans.specs.declared.plan.UserPlan.{UserPlan}
use Rattle.schema_plans.specs.declared.plan.ObjectPlan.{ObjectPlan}
use Rattle.schema_plans.specs.declared.plan.FieldPlan.{FieldPlan}
use Rattle.schema_plans.specs.declared.plan.RulePlan.{RulePlan}
use Rattle.bundle_read.specs.declared.fault.BundleFault.{BundleFault}
use Rattle.bundle_read.specs.declared.fault.BundleFault.TheVariants.{Wrong, NoMemory}
use Rattle.bundle_read.specs.declared.entries.Bundle.{Bundle}
use Rattle.bundle_read.specs.declared.entries.TenantPlan.{TenantPlan}
use Rattle.bundle_read.specs.declared.entries.UnitPlan.{UnitPlan}
use Rattle.bundle_read.specs.declared.entries.SeedEntry.{SeedEntry}
use Rattle.bundle_read.specs.declared.entries.RowEntry.{RowEntry}
use Rattle.bundle_read.specs.declared.entries.CellEntry.{CellEntry}
use Rattle.bundle_read.specs.declared.entries.CellValue.{CellValue}
use Rattle.bundle_read.specs.declared.entries.CellValue.TheVariants as Cell
use Rattle.bundle_read.specs.declared.entries.SessionEntry.{SessionEntry}
use Rattle.bundle_read.specs.declared.entries.RequestEntry.{RequestEntry}
use Rattle.bundle_read.specs.declared.entries.WorkEntry.{WorkEntry}
use Rattle.bundle_read.specs.declared.entries.WorkEntry.TheVariants as Work
use Rattle.bundle_read.specs.declared.entries.SaveEntry.{SaveEntry}
use Rattle.bundle_read.specs.Readings.{fault, within, ◌>>=◌, of_kind, of_values, has, keyed, key_name, needed, optional, item_name, each, short, list_of, IsFault}
use Rattle.bundle_read.specs.Words.{meaning, access_words, kind_words, by_words, op_words, version_of, length_of, is_tenant_name}

-- ---- single values

abbrev pub text : Data → Result (List ℕ) Fault
text d = of_kind (as_str d)

abbrev pub truth : Data → Result Bool Fault
truth d = of_kind (as_bool d)

abbrev pub num : Data → Result Num Fault
num d = of_kind (as_number d)

-- one of these words
abbrev pub word : {A : Type 0} → List (List ℕ × A) → Data → Result A Fault
word ws d = text d >>= (λ t. of_values (meaning ws t))

abbrev pub access : Data → Result Access Fault
access = word access_words

abbrev pub kind : Data → Result PlanKind Fault
kind = word kind_words

abbrev pub by : Data → Result RollupBy Fault
by = word by_words

abbrev pub op : Data → Result Op Fault
op = word op_words

abbrev pub version : Data → Result ℕ Fault
version d = num d >>= (λ n. of_values (version_of n))

-- any number may be given for a length; which of them are lengths the schema tells
abbrev pub length : Data → Result PlanLength Fault
length d = num d >>= (λ n. Ok (length_of n))

abbrev pub now : Data → Result ℤ Fault
now d = text d >>= (λ t. of_values (moment_value t))

-- ---- roles and users

abbrev pub role_keys : List (List ℕ)
role_keys = codes "name" ∷ codes "parent" ∷ []

abbrev pub role : Data → Result RolePlan Fault
role d = keyed role_keys d (
    needed text (codes "name") d >>= (λ name.
    optional text (codes "parent") d >>= (λ parent.
    Ok (record { name = name; parent = parent }))))

abbrev pub user_keys : List (List ℕ)
user_keys = codes "name" ∷ codes "role" ∷ []

abbrev pub user : Data → Result UserPlan Fault
user d = keyed user_keys d (
    needed text (codes "name") d >>= (λ name.
    optional text (codes "role") d >>= (λ role.
    Ok (record { name = name; role = role }))))

-- ---- objects

abbrev pub field_keys : List (List ℕ)
field_keys =
    codes "name" ∷ codes "type" ∷ codes "length" ∷ codes "required" ∷ codes "to" ∷ codes "relation" ∷ codes "children" ∷ codes "of" ∷ codes "by" ∷ codes "field" ∷ []

abbrev pub or_false : Option Bool → Bool
or_false None = false
or_false (Some b) = b

-- what a field says of itself: its name, its type, its length, and whether it is required
abbrev pub field_head : Data → Result (List ℕ × PlanKind × Option PlanLength × Bool) Fault
field_head d =
    needed text (codes "name") d >>= (λ name.
    needed kind (codes "type") d >>= (λ kind.
    optional length (codes "length") d >>= (λ length.
    optional truth (codes "required") d >>= (λ required.
    Ok (name, kind, length, or_false required)))))

-- where it leads: the object, and the words there and back
abbrev pub field_link : Data → Result (Option (List ℕ) × Option (List ℕ) × Option (List ℕ)) Fault
field_link d =
    optional text (codes "to") d >>= (λ to.
    optional text (codes "relation") d >>= (λ relation.
    optional text (codes "children") d >>= (λ children.
    Ok (to, relation, children))))

-- what it sums up: the detail object, how, and its field
abbrev pub field_sum : Data → Result (Option (List ℕ) × Option RollupBy × Option (List ℕ)) Fault
field_sum d =
    optional text (codes "of") d >>= (λ of.
    optional by (codes "by") d >>= (λ by.
    optional text (codes "field") d >>= (λ field.
    Ok (of, by, field))))

abbrev pub field : Data → Result FieldPlan Fault
field d = keyed field_keys d (
    field_head d >>= (λ h.
    field_link d >>= (λ l.
    field_sum d >>= (λ s.
    Ok (record { name = h.0; kind = h.1; length = h.2; required = h.3; to = l.0; relation = l.1; children = l.2; of = s.0; by = s.1; field = s.2 })))))

abbrev pub rule_keys : List (List ℕ)
rule_keys = codes "name" ∷ codes "when" ∷ codes "message" ∷ []

abbrev pub rule : Data → Result RulePlan Fault
rule d = keyed rule_keys d (
    needed text (codes "name") d >>= (λ name.
    needed text (codes "when") d >>= (λ when.
    needed text (codes "message") d >>= (λ message.
    Ok (record { name = name; when = when; message = message })))))

abbrev pub or_empty : {A : Type 0} → Option (List A) → List A
or_empty None = []
or_empty (Some xs) = xs

abbrev pub object_keys : List (List ℕ)
object_keys = codes "name" ∷ codes "prefix" ∷ codes "default" ∷ codes "fields" ∷ codes "rules" ∷ []

abbrev pub object_plan : Data → Result ObjectPlan Fault
object_plan d = keyed object_keys d (
    needed text (codes "name") d >>= (λ name.
    needed text (codes "prefix") d >>= (λ prefix.
    needed access (codes "default") d >>= (λ default.
    needed (list_of None field) (codes "fields") d >>= (λ fields.
    optional (list_of None rule) (codes "rules") d >>= (λ rules.
    Ok (record { name = name; prefix = prefix; default = default; fields = fields; rules = or_empty rules })))))))

-- ---- units and rows

abbrev pub unit_keys : List (List ℕ)
unit_keys = codes "name" ∷ codes "text" ∷ []

abbrev pub unit : Data → Result UnitPlan Fault
unit d = keyed unit_keys d (
    needed text (codes "name") d >>= (λ name.
    needed text (codes "text") d >>= (λ text.
    Ok (record { name = name; text = text }))))

abbrev pub number_cell : Option ℤ → CellValue
number_cell None = Cell.Float
number_cell (Some n) = Cell.Whole n

-- what is written for a cell: any JSON value
abbrev pub cell_value : Data → CellValue
cell_value null = Cell.Null
cell_value (boolean b) = Cell.Truth b
cell_value (number n) = number_cell (as_integer n)
cell_value (string s) = Cell.Text s
cell_value (array ds) = Cell.Nested
cell_value (object ms) = Cell.Nested

abbrev pub cells : Members → List CellEntry
cells no_members = []
cells (member k d ms) = record { name = k; value = cell_value d } ∷ cells ms

-- any keys
abbrev pub row : Data → Result RowEntry Fault
row d = of_kind (as_object d) >>= (λ ms. Ok (record { cells = cells ms }))

abbrev pub rows_key : List ℕ
rows_key = codes "rows"

abbrev pub seed_keys : List (List ℕ)
seed_keys = codes "object" ∷ codes "rows" ∷ []

abbrev pub seed_entry : Data → Result SeedEntry Fault
seed_entry d = keyed seed_keys d (
    needed text (codes "object") d >>= (λ object.
    needed (list_of None row) (codes "rows") d >>= (λ rows.
    Ok (record { object = object; rows = rows }))))

-- ---- requests and sessions

abbrev pub save_keys : List (List ℕ)
save_keys = codes "op" ∷ codes "object" ∷ codes "allOrNone" ∷ codes "rows" ∷ []

abbrev pub save : Data → Result SaveEntry Fault
save d = keyed save_keys d (
    needed op (codes "op") d >>= (λ op.
    needed text (codes "object") d >>= (λ object.
    needed truth (codes "allOrNone") d >>= (λ all_or_none.
    needed (list_of None row) (codes "rows") d >>= (λ rows.
    Ok (record { op = op; object = object; all_or_none = all_or_none; rows = rows }))))))

abbrev pub request_keys : List (List ℕ)
request_keys = codes "apex" ∷ codes "save" ∷ codes "now" ∷ []

abbrev pub apex_work : Data → Result WorkEntry Fault
apex_work d = text d >>= (λ t. Ok (Work.Apex t))

abbrev pub save_work : Data → Result WorkEntry Fault
save_work d = save d >>= (λ e. Ok (Work.Save e))

-- a block or a save, and not both
abbrev pub work : Option Data → Option Data → Result WorkEntry Fault
work (Some a) None = within (key_name (codes "apex")) (apex_work a)
work None (Some s) = within (key_name (codes "save")) (save_work s)
work _ _ = fault BadValue

-- 2000-01-01T00:00:00Z where no moment is given
abbrev pub or_then : Option ℤ → ℤ
or_then None = pos 946684800
or_then (Some n) = n

abbrev pub request : Data → Result RequestEntry Fault
request d = keyed request_keys d (
    work (get (codes "apex") d) (get (codes "save") d) >>= (λ work.
    optional now (codes "now") d >>= (λ now.
    Ok (record { work = work; now = or_then now }))))

abbrev pub session_keys : List (List ℕ)
session_keys = codes "user" ∷ codes "requests" ∷ []

abbrev pub session : Data → Result SessionEntry Fault
session d = keyed session_keys d (
    needed text (codes "user") d >>= (λ user.
    needed (list_of (Some 10000) request) (codes "requests") d >>= (λ requests.
    Ok (record { user = user; requests = requests }))))

-- ---- tenants

abbrev pub filled : Items → Result Items Fault
filled no_items = fault BadValue
filled (item d ds) = Ok (item d ds)

-- there is a user
abbrev pub users : Data → Result (List UserPlan) Fault
users d = of_kind (as_array d) >>= (λ ds. filled ds >>= (λ ds. short (Some 1000000) ds >>= each user 0))

abbrev pub schema : Data → Result SchemaPlan Fault
schema d =
    optional (list_of None role) (codes "roles") d >>= (λ roles.
    needed users (codes "users") d >>= (λ users.
    needed (list_of None object_plan) (codes "objects") d >>= (λ objects.
    Ok (record { roles = or_empty roles; users = users; objects = objects }))))

-- a tenant's name, that no earlier tenant has
abbrev pub named : List (List ℕ) → List ℕ → Result (List ℕ) Fault
named earlier name = cond (is_tenant_name name) (cond (has earlier name) (fault Duplicate) (Ok name)) (fault BadValue)

abbrev pub tenant_name : List (List ℕ) → Data → Result (List ℕ) Fault
tenant_name earlier d = text d >>= named earlier

abbrev pub tenant_keys : List (List ℕ)
tenant_keys = codes "name" ∷ codes "roles" ∷ codes "users" ∷ codes "objects" ∷ codes "units" ∷ codes "seed" ∷ codes "sessions" ∷ []

-- a tenant behind others with these names
abbrev pub tenant : List (List ℕ) → Data → Result TenantPlan Fault
tenant earlier d = keyed tenant_keys d (
    needed (tenant_name earlier) (codes "name") d >>= (λ name.
    schema d >>= (λ schema.
    needed (list_of None unit) (codes "units") d >>= (λ units.
    optional (list_of None seed_entry) (codes "seed") d >>= (λ seed.
    needed (list_of (Some 10000) session) (codes "sessions") d >>= (λ sessions.
    Ok (record { name = name; schema = schema; units = units; seed = or_empty seed; sessions = sessions })))))))

-- tenants, by their numbers from i on, behind others with these names
abbrev pub each_tenant : List (List ℕ) → ℕ → Items → Result (List TenantPlan) Fault
each_tenant earlier i no_items = Ok []
each_tenant earlier i (item d ds) =
    within (item_name i) (tenant earlier d) >>= (λ t.
    each_tenant (earlier ++ t.name ∷ []) (i + 1) ds >>= (λ rest.
    Ok (t ∷ rest)))

abbrev pub tenants : Data → Result (List TenantPlan) Fault
tenants d = of_kind (as_array d) >>= (λ ds. short (Some 1000) ds >>= each_tenant [] 0)

-- ---- bundles

abbrev pub bundle_keys : List (List ℕ)
bundle_keys = codes "version" ∷ codes "tenants" ∷ []

abbrev pub bundle : Data → Result Bundle Fault
bundle d = keyed bundle_keys d (
    needed version (codes "version") d >>= (λ version.
    needed tenants (codes "tenants") d >>= (λ tenants.
    Ok (record { version = version; tenants = tenants }))))

-- a place as it is written: without the dot before its first key, and the whole is `json`
abbrev pub path : List ℕ → List ℕ
path [] = codes "json"
path (b ∷ place) = cond (eqb b 46) place (codes "json")

abbrev pub placed : Result Bundle Fault → Result Bundle Fault
placed (Ok b) = Ok b
placed (Err f) = Err (record { place = path f.place; word = f.word })

-- the bytes are the JSON text of d
abbrev pub IsJson : List ℕ → Data → Type 0
IsJson bytes d = IsUtf8 bytes × (read bytes ≡ Some d)

abbrev pub not_json : Result Bundle Fault
not_json = Err (record { place = codes "json"; word = NotJson })

-- what the bytes are read as: the bundle that their JSON value says or its first fault, or that they have no such value
pub data IsRead (bytes : List ℕ) : Result Bundle Fault → Type 0 where
  as_value : (d : Data) → IsJson bytes d → IsRead bytes (placed (bundle d))
  as_nothing : ((d : Data) → IsJson bytes d → ⊥) → IsRead bytes not_json

-- what reading the bytes answers; want of memory is free
abbrev pub Reads : List ℕ → Result Bundle BundleFault → Type 0
Reads bytes (Ok b) = IsRead bytes (Ok b)
Reads bytes (Err (Wrong f)) = IsRead bytes (Err f)
Reads bytes (Err NoMemory) = Unit {0}

-- the fault with its place as it is written
abbrev pub IsPlaced : BundleFault → Fault → Type 0
IsPlaced r f = IsFault r (record { place = path f.place; word = f.word })

abbrev pub IsNotJson : BundleFault → Type 0
IsNotJson r = IsFault r (record { place = codes "json"; word = NotJson })

-- an answer and a reading are the same, want of memory apart
abbrev pub Agrees : Result Bundle BundleFault → Result Bundle Fault → Type 0
Agrees (Ok b) other = other ≡ Ok b
Agrees (Err (Wrong f)) other = other ≡ Err f
Agrees (Err NoMemory) other = Unit {0}
