-- What is wrong with a schema as it is planned (docs/platform.md, "Schemas").
--
-- Of each item the first word that applies is told, and of a schema the first item that has one.
use Rattle.std.specs.Prelude.{ℕ, zero, suc, ◌+◌, ◌&&◌, ◌||◌, not, nat_lt, eqb, Bool, true, false, cond, List, [], ◌∷◌, ◌++◌, length, take, map, codes, bytes_eq, Option, None, Some, slice_get}
use Rattle.std.specs.List.{list_all, list_any}
use Rattle.apex_text.specs.Fold.{folded}
use Rattle.schema_plans.specs.declared.plan.SchemaPlan.{SchemaPlan}
use Rattle.schema_plans.specs.declared.plan.RolePlan.{RolePlan}
use Rattle.schema_plans.specs.declared.plan.UserPlan.{UserPlan}
use Rattle.schema_plans.specs.declared.plan.ObjectPlan.{ObjectPlan}
use Rattle.schema_plans.specs.declared.plan.FieldPlan.{FieldPlan}
use Rattle.schema_plans.specs.declared.plan.RulePlan.{RulePlan}
use Rattle.schema_plans.specs.declared.plan.PlanKind.{PlanKind}
use Rattle.schema_plans.specs.declared.plan.PlanKind.TheVariants as Kind
use Rattle.schema_plans.specs.declared.plan.PlanLength.{PlanLength}
use Rattle.schema_plans.specs.declared.plan.PlanLength.TheVariants.{Whole, Other}
use Rattle.apex_schema.specs.declared.schema.RollupBy.{RollupBy}
use Rattle.apex_schema.specs.declared.schema.RollupBy.TheVariants.{Count}
use Rattle.apex_schema.specs.declared.schema.Rollup.{Rollup}
use Rattle.fault_words.specs.declared.fault.Fault.{Fault}
use Rattle.fault_words.specs.declared.fault.FaultWord.{FaultWord}
use Rattle.fault_words.specs.declared.fault.FaultWord.TheVariants.{Duplicate, BadName, BadPrefix, UnknownRole, RoleLoop, UnknownObject, TooManyMasters, MasterLoop, BadLength, BadRollup}
use Rattle.schema_plans.specs.declared.child.ChildWord.{ChildWord}
use Rattle.schema_names.specs.Names.{is_letter, is_digit, has, is_bad_name, place_of}

-- ---- the first of several

abbrev pub or_later : {A : Type 0} → Option A → Option A → Option A
or_later (Some a) later = Some a
or_later None later = later

-- what an item has, of items with their numbers from i on: the first that is there
abbrev pub first_of : {A : Type 0} → (ℕ → A → Option Fault) → ℕ → List A → Option Fault
first_of has_fault i [] = None
first_of has_fault i (x ∷ xs) = or_later (has_fault i x) (first_of has_fault (i + 1) xs)

abbrev pub when : Bool → FaultWord → Option FaultWord
when applies word = cond applies (Some word) None

abbrev pub is_empty : {A : Type 0} → List A → Bool
is_empty [] = true
is_empty (x ∷ xs) = false

abbrev pub is_none : {A : Type 0} → Option A → Bool
is_none None = true
is_none (Some a) = false

abbrev pub bind : {A B : Type 0} → Option A → (A → Option B) → Option B
bind None next = None
bind (Some a) next = next a

-- the place of a fault is that of its item, behind `schema`
abbrev pub standing : List ℕ → Option FaultWord → Option Fault
standing name None = None
standing name (Some w) = Some (record { place = codes "schema " ++ name; word = w })

-- an earlier one of these names is the one at this place
abbrev pub is_before : Option ℕ → ℕ → Bool
is_before None i = false
is_before (Some j) i = nat_lt j i

abbrev pub is_taken : List (List ℕ) → ℕ → List ℕ → Bool
is_taken names i name = is_before (place_of names (folded name)) i

-- what a name that may be absent stands for
abbrev pub named : List (List ℕ) → Option (List ℕ) → Option ℕ
named names None = None
named names (Some n) = place_of names (folded n)

-- a name is given, and it is none of these
abbrev pub is_unknown : List (List ℕ) → Option (List ℕ) → Bool
is_unknown names None = false
is_unknown names (Some n) = is_none (place_of names (folded n))

-- ---- roles and users

abbrev pub role_names : SchemaPlan → List (List ℕ)
role_names plan = map (λ (r : RolePlan). folded r.name) plan.roles

abbrev pub parents : SchemaPlan → List (Option ℕ)
parents plan = map (λ (r : RolePlan). named (role_names plan) r.parent) plan.roles

abbrev pub parent_at : List (Option ℕ) → ℕ → Option ℕ
parent_at ps r = bind (slice_get ps r) (λ p. p)

abbrev pub none_or : (ℕ → Bool) → Option ℕ → Bool
none_or test None = true
none_or test (Some p) = test p

-- the chain of parents from a role ends within so many steps
abbrev pub ends_within : List (Option ℕ) → ℕ → ℕ → Bool
ends_within ps zero r = is_none (parent_at ps r)
ends_within ps (suc n) r = none_or (ends_within ps n) (parent_at ps r)

-- a chain with more steps than there are roles goes in a circle
abbrev pub role_word : SchemaPlan → ℕ → RolePlan → Option FaultWord
role_word plan i r =
    or_later (when (is_taken (role_names plan) i r.name) Duplicate)
    (or_later (when (is_bad_name r.name) BadName)
    (or_later (when (is_unknown (role_names plan) r.parent) UnknownRole)
    (when (not (ends_within (parents plan) (length plan.roles) i)) RoleLoop)))

abbrev pub role_fault : SchemaPlan → ℕ → RolePlan → Option Fault
role_fault plan i r = standing r.name (role_word plan i r)

abbrev pub user_names : SchemaPlan → List (List ℕ)
user_names plan = map (λ (u : UserPlan). folded u.name) plan.users

abbrev pub user_word : SchemaPlan → ℕ → UserPlan → Option FaultWord
user_word plan i u =
    or_later (when (is_taken (user_names plan) i u.name) Duplicate)
    (or_later (when (is_bad_name u.name) BadName)
    (when (is_unknown (role_names plan) u.role) UnknownRole))

abbrev pub user_fault : SchemaPlan → ℕ → UserPlan → Option Fault
user_fault plan i u = standing u.name (user_word plan i u)

-- ---- objects

-- the object that every tenant has; its number is that behind the planned ones
abbrev pub row_share_name : List ℕ
row_share_name = codes "rowshare"

abbrev pub object_names : SchemaPlan → List (List ℕ)
object_names plan = map (λ (o : ObjectPlan). folded o.name) plan.objects ++ row_share_name ∷ []

abbrev pub prefixes : SchemaPlan → List (List ℕ)
prefixes plan = map (λ (o : ObjectPlan). o.prefix) plan.objects

-- three letters or digits, and not those of users or of RowShare
abbrev pub is_prefix : List ℕ → Bool
is_prefix prefix =
    eqb (length prefix) 3 && list_all (λ b. is_letter b || is_digit b) prefix && not (has (codes "005" ∷ codes "00r" ∷ []) prefix)

-- prefixes are compared exactly, and an earlier object may not have the same
abbrev pub is_bad_prefix : SchemaPlan → ℕ → List ℕ → Bool
is_bad_prefix plan i prefix = not (is_prefix prefix) || has (take i (prefixes plan)) prefix

abbrev pub object_word : SchemaPlan → ℕ → ObjectPlan → Option FaultWord
object_word plan i o =
    or_later (when (is_taken (object_names plan) i o.name || bytes_eq (folded o.name) row_share_name) Duplicate)
    (or_later (when (is_bad_name o.name) BadName)
    (when (is_bad_prefix plan i o.prefix) BadPrefix))

abbrev pub object_fault : SchemaPlan → ℕ → ObjectPlan → Option Fault
object_fault plan i o = standing o.name (object_word plan i o)

-- ---- fields

abbrev pub is_link : PlanKind → Bool
is_link Kind.Lookup = true
is_link Kind.MasterDetail = true
is_link _ = false

abbrev pub is_master : PlanKind → Bool
is_master Kind.MasterDetail = true
is_master _ = false

abbrev pub is_text : PlanKind → Bool
is_text Kind.Text = true
is_text _ = false

abbrev pub is_number : PlanKind → Bool
is_number Kind.Number = true
is_number _ = false

abbrev pub is_rollup : PlanKind → Bool
is_rollup Kind.Rollup = true
is_rollup _ = false

abbrev pub given : Option (List ℕ) → List (List ℕ)
given None = []
given (Some n) = folded n ∷ []

-- the words that a field takes among those of its object
abbrev pub field_words : FieldPlan → List (List ℕ)
field_words f = folded f.name ∷ cond (is_link f.kind) (given f.relation) []

-- the fields that each object has
abbrev pub own_words : List (List ℕ)
own_words = codes "id" ∷ codes "ownerid" ∷ []

abbrev pub all_words : List FieldPlan → List (List ℕ)
all_words [] = []
all_words (f ∷ fs) = field_words f ++ all_words fs

abbrev pub object_words : ObjectPlan → List (List ℕ)
object_words o = own_words ++ all_words o.fields

abbrev pub row_share_words : List (List ℕ)
row_share_words = own_words ++ codes "rowid" ∷ codes "userid" ∷ codes "level" ∷ []

abbrev pub or_empty : {A : Type 0} → Option (List A) → List A
or_empty None = []
or_empty (Some xs) = xs

-- the words of each object, and of RowShare behind them
abbrev pub word_lists : SchemaPlan → List (List (List ℕ))
word_lists plan = map object_words plan.objects ++ row_share_words ∷ []

-- the words of the object with this number
abbrev pub words_at : SchemaPlan → ℕ → List (List ℕ)
words_at plan n = or_empty (slice_get (word_lists plan) n)

-- the object that a field leads to
abbrev pub target : SchemaPlan → FieldPlan → Option ℕ
target plan f = cond (is_link f.kind) (named (object_names plan) f.to) None

abbrev pub one_or_none : Option ℕ → List ℕ
one_or_none None = []
one_or_none (Some n) = n ∷ []

-- the object that a MasterDetail field leads to
abbrev pub master : SchemaPlan → FieldPlan → Option ℕ
master plan f = cond (is_master f.kind) (target plan f) None

-- the objects that the MasterDetail fields among these lead to
abbrev pub masters_among : SchemaPlan → List FieldPlan → List ℕ
masters_among plan [] = []
masters_among plan (f ∷ fs) = one_or_none (master plan f) ++ masters_among plan fs

-- the masters of each object: each of its MasterDetail fields counts
abbrev pub masters : SchemaPlan → List (List ℕ)
masters plan = map (λ (o : ObjectPlan). masters_among plan o.fields) plan.objects

-- the masters of the object with this number
abbrev pub masters_at : List (List ℕ) → ℕ → List ℕ
masters_at ms n = or_empty (slice_get ms n)

abbrev pub is_among : List ℕ → ℕ → Bool
is_among ns n = list_any (eqb n) ns

-- each chain of masters from an object ends within so many steps
abbrev pub all_end_within : List (List ℕ) → ℕ → ℕ → Bool
all_end_within ms zero n = is_empty (masters_at ms n)
all_end_within ms (suc k) n = list_all (all_end_within ms k) (masters_at ms n)

-- with the field itself, each chain of masters has at most three steps
abbrev pub is_looped : SchemaPlan → FieldPlan → Bool
is_looped plan f = not (none_or (all_end_within (masters plan) 2) (target plan f))

-- ---- lengths and roll-ups

abbrev pub is_bad_length : Option PlanLength → Bool
is_bad_length None = false
is_bad_length (Some (Whole n)) = eqb n 0 || nat_lt 100000 n
is_bad_length (Some Other) = true

-- the first Number among these fields that has this folded name, by its number, where these are the fields from number k on
abbrev pub number_from : ℕ → List FieldPlan → List ℕ → Option ℕ
number_from k [] name = None
number_from k (f ∷ fs) name = cond (is_number f.kind && bytes_eq (folded f.name) name) (Some k) (number_from (k + 1) fs name)

-- the number of a Number in its object, where Id and OwnerId are the fields 0 and 1
abbrev pub number_in : List ObjectPlan → ℕ → List ℕ → Option ℕ
number_in objects d name = bind (slice_get objects d) (λ (o : ObjectPlan). number_from 2 o.fields name)

-- the field of object number d that is summed up, where one has to be
abbrev pub summed : SchemaPlan → ℕ → RollupBy → Option (List ℕ) → Option (Option ℕ)
summed plan d Count name = Some None
summed plan d by None = None
summed plan d by (Some n) = bind (number_in plan.objects d (folded n)) (λ k. Some (Some k))

-- an object that has this one among its masters
abbrev pub detail_of : SchemaPlan → ℕ → FieldPlan → Option ℕ
detail_of plan i f = bind (named (object_names plan) f.of) (λ d. cond (is_among (masters_at (masters plan) d) i) (Some d) None)

-- the roll-up over a detail object
abbrev pub rolled_by : SchemaPlan → ℕ → RollupBy → Option (List ℕ) → Option Rollup
rolled_by plan d by name = bind (summed plan d by name) (λ k. Some (record { detail = d; by = by; field = k }))

-- the roll-up that a field of object number i is, where it is one
abbrev pub rollup_of : SchemaPlan → ℕ → FieldPlan → Option Rollup
rollup_of plan i f = bind f.by (λ by. bind (detail_of plan i f) (λ d. rolled_by plan d by f.field))

-- ---- what is wrong with a field

abbrev pub has_child : List ChildWord → ChildWord → Bool
has_child ws w = list_any (λ (v : ChildWord). eqb v.to w.to && bytes_eq v.word w.word) ws

abbrev pub child_word : SchemaPlan → FieldPlan → Option ChildWord
child_word plan f = bind (target plan f) (λ n. bind f.children (λ c. Some (record { to = n; word = folded c })))

abbrev pub added : Option ChildWord → List ChildWord
added None = []
added (Some w) = w ∷ []

-- a children word is a word of its object, or an earlier field's
abbrev pub child_is_taken : SchemaPlan → List ChildWord → Option ChildWord → Bool
child_is_taken plan earlier None = false
child_is_taken plan earlier (Some w) = has (words_at plan w.to) w.word || has_child earlier w

-- a word of the object, or the field's own name
abbrev pub is_own : List (List ℕ) → List ℕ → Option (List ℕ) → Bool
is_own before name None = false
is_own before name (Some r) = has before (folded r) || bytes_eq name (folded r)

abbrev pub relation_is_taken : List (List ℕ) → FieldPlan → Bool
relation_is_taken before f = cond (is_link f.kind) (is_own before (folded f.name) f.relation) false

abbrev pub is_bad_given : Option (List ℕ) → Bool
is_bad_given None = true
is_bad_given (Some n) = is_bad_name n

abbrev pub has_bad_name : FieldPlan → Bool
has_bad_name f = is_bad_name f.name || (is_link f.kind && (is_bad_given f.relation || is_bad_given f.children))

-- what stands before a field: the words of its object, whether it has a master, and the children words of all objects
pub record Before : Type 0 where
  pub words : List (List ℕ)
  pub mastered : Bool
  pub children : List ChildWord

-- a name, a relation word or a children word that is there already
abbrev pub is_double : SchemaPlan → Before → FieldPlan → Bool
is_double plan before f =
    has before.words (folded f.name) || (relation_is_taken before.words f || child_is_taken plan before.children (child_word plan f))

-- what is wrong with where a field leads, or what it holds
abbrev pub kind_word : SchemaPlan → ℕ → Bool → FieldPlan → Option FaultWord
kind_word plan i mastered f =
    or_later (when (is_link f.kind && is_none (target plan f)) UnknownObject)
    (or_later (when (is_master f.kind && mastered) TooManyMasters)
    (or_later (when (is_master f.kind && is_looped plan f) MasterLoop)
    (or_later (when (is_text f.kind && is_bad_length f.length) BadLength)
    (when (is_rollup f.kind && is_none (rollup_of plan i f)) BadRollup))))

abbrev pub field_word : SchemaPlan → ℕ → Before → FieldPlan → Option FaultWord
field_word plan i before f =
    or_later (when (is_double plan before f) Duplicate) (or_later (when (has_bad_name f) BadName) (kind_word plan i before.mastered f))

abbrev pub field_place : ObjectPlan → List ℕ → List ℕ
field_place o name = o.name ++ codes "." ++ name

abbrev pub behind : SchemaPlan → Before → FieldPlan → Before
behind plan b f = record {
  words = b.words ++ field_words f;
  mastered = b.mastered || is_master f.kind;
  children = b.children ++ added (child_word plan f);
}

abbrev pub fields_fault : SchemaPlan → ℕ → ObjectPlan → Before → List FieldPlan → Option Fault
fields_fault plan i o b [] = None
fields_fault plan i o b (f ∷ fs) = or_later (standing (field_place o f.name) (field_word plan i b f)) (fields_fault plan i o (behind plan b f) fs)

-- what stands before the first field of an object
abbrev pub start : List ChildWord → Before
start earlier = record { words = own_words; mastered = false; children = earlier }

-- the children words of fields
abbrev pub children_of : SchemaPlan → List FieldPlan → List ChildWord
children_of plan [] = []
children_of plan (f ∷ fs) = added (child_word plan f) ++ children_of plan fs

abbrev pub all_fields_fault : SchemaPlan → ℕ → List ChildWord → List ObjectPlan → Option Fault
all_fields_fault plan i earlier [] = None
all_fields_fault plan i earlier (o ∷ os) =
    or_later (fields_fault plan i o (start earlier) o.fields)
    (all_fields_fault plan (i + 1) (earlier ++ children_of plan o.fields) os)

-- ---- rules, by their names alone

abbrev pub rule_fault : ObjectPlan → ℕ → RulePlan → Option Fault
rule_fault o k r = standing (field_place o r.name) (when (is_bad_name r.name) BadName)

abbrev pub rules_fault : ℕ → ObjectPlan → Option Fault
rules_fault i o = first_of (rule_fault o) 0 o.rules

-- ---- the first fault of a schema, its formulas apart

abbrev pub people_fault : SchemaPlan → Option Fault
people_fault plan = or_later (first_of (role_fault plan) 0 plan.roles) (first_of (user_fault plan) 0 plan.users)

abbrev pub data_fault : SchemaPlan → Option Fault
data_fault plan =
    or_later (first_of (object_fault plan) 0 plan.objects) (or_later (all_fields_fault plan 0 [] plan.objects) (first_of rules_fault 0 plan.objects))

abbrev pub schema_fault : SchemaPlan → Option Fault
schema_fault plan = or_later (people_fault plan) (data_fault plan)
