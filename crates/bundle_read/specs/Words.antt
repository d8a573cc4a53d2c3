-- The words and numbers that a bundle may have at some places (docs/formats.md, "Bundles").
use Rattle.std.specs.Prelude.{ℕ, ◌&&◌, ◌||◌, nat_lt, eqb, cond, Bool, List, [], ◌∷◌, length, codes, bytes_eq, Option, None, Some}
use Rattle.std.specs.List.{list_all}
use Rattle.serde_json.specs.Data.{Num, unsigned}
use Rattle.apex_schema.specs.declared.schema.Access.{Access}
use Rattle.apex_schema.specs.declared.schema.Access.TheVariants as Level
use Rattle.apex_schema.specs.declared.schema.RollupBy.{RollupBy}
use Rattle.apex_schema.specs.declared.schema.RollupBy.TheVariants as By
use Rattle.apex_requests.specs.declared.request.Op.{Op}
use Rattle.apex_requests.specs.declared.request.Op.TheVariants as Does
use Rattle.schema_plans.specs.declared.plan.PlanKind.{PlanKind}
use Rattle.schema_plans.specs.declared.plan.PlanKind.TheVariants as Kind
use Rattle.schema_plans.specs.declared.plan.PlanLength.{PlanLength}
use Rattle.schema_plans.specs.declared.plan.PlanLength.TheVariants.{Whole, Other}

-- the meaning of the first of these words that is this one
abbrev pub meaning : {A : Type 0} → List (List ℕ × A) → List ℕ → Option A
meaning [] word = None
meaning (w ∷ ws) word = cond (bytes_eq word w.0) (Some w.1) (meaning ws word)

-- what everybody may do with an object's rows
abbrev pub access_words : List (List ℕ × Access)
access_words = (codes "Private", Level.Nothing) ∷ (codes "Read", Level.Read) ∷ (codes "Edit", Level.Edit) ∷ []

-- the types of fields
abbrev pub kind_words : List (List ℕ × PlanKind)
kind_words =
    (codes "Text", Kind.Text) ∷ (codes "Number", Kind.Number) ∷ (codes "Checkbox", Kind.Checkbox) ∷ (codes "Date", Kind.Date) ∷
    (codes "Datetime", Kind.Datetime) ∷ (codes "Lookup", Kind.Lookup) ∷ (codes "MasterDetail", Kind.MasterDetail) ∷ (codes "Rollup", Kind.Rollup) ∷ []

-- how a roll-up sums up
abbrev pub by_words : List (List ℕ × RollupBy)
by_words = (codes "COUNT", By.Count) ∷ (codes "SUM", By.Sum) ∷ (codes "MIN", By.Min) ∷ (codes "MAX", By.Max) ∷ []

-- what a save does
abbrev pub op_words : List (List ℕ × Op)
op_words = (codes "insert", Does.Insert) ∷ (codes "update", Does.Update) ∷ (codes "delete", Does.Delete) ∷ (codes "upsert", Does.Upsert) ∷ []

-- the one version that there is
abbrev pub version_of : Num → Option ℕ
version_of (unsigned n) = cond (eqb n 1) (Some 1) None
version_of _ = None

-- a number that is given for a length
abbrev pub length_of : Num → PlanLength
length_of (unsigned n) = Whole n
length_of _ = Other

-- a small letter, a digit or `_`
abbrev pub is_name_byte : ℕ → Bool
is_name_byte b = (nat_lt 96 b && nat_lt b 123) || ((nat_lt 47 b && nat_lt b 58) || eqb b 95)

-- a tenant's name: 1 to 64 of these
abbrev pub is_tenant_name : List ℕ → Bool
is_tenant_name name = (nat_lt 0 (length name) && nat_lt (length name) 65) && list_all is_name_byte name
