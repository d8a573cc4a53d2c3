-- The users of sessions (docs/formats.md, "Sessions").
use Rattle.std.specs.Prelude.{◌≡◌, ℕ, suc, List, [], ◌∷◌, ◌++◌, map, codes, Option, None, Some, option_map}
use Rattle.std.specs.Fmt.{decimal}
use Rattle.apex_text.specs.Fold.{folded}
use Rattle.schema_names.specs.Names.{place_of}
use Rattle.schema_plans.specs.declared.plan.UserPlan.{UserPlan}
use Rattle.fault_words.specs.declared.fault.Fault.{Fault}
use Rattle.fault_words.specs.declared.fault.FaultWord.TheVariants.{UnknownName}
use Rattle.bundle_read.specs.declared.entries.SessionEntry.{SessionEntry}
use Rattle.tenant_sessions.specs.declared.users.SessionFault.{SessionFault}
use Rattle.tenant_sessions.specs.declared.users.SessionFault.TheVariants.{Wrong, NoMemory}

-- the names of users, without case
abbrev pub names : List UserPlan → List (List ℕ)
names users = map (λ (u : UserPlan). folded u.name) users

-- the number of a session's user; none where no user has the name
abbrev pub user_of : List (List ℕ) → SessionEntry → Option ℕ
user_of names session = place_of names (folded session.user)

abbrev pub each_user : List UserPlan → List SessionEntry → List (Option ℕ)
each_user users sessions = map (user_of (names users)) sessions

-- the place of the first that is none
abbrev pub first_none : List (Option ℕ) → Option ℕ
first_none [] = None
first_none (None ∷ os) = Some 0
first_none (Some n ∷ os) = option_map suc (first_none os)

abbrev pub unknown : ℕ → Fault
unknown session = record { place = codes "session " ++ decimal session; word = UnknownName }

-- each session has one of these users
abbrev pub AreUsers : List UserPlan → List SessionEntry → List ℕ → Type 0
AreUsers users sessions all = each_user users sessions ≡ map Some all

abbrev pub IsUnknownUser : ℕ → SessionFault → Type 0
IsUnknownUser session (Wrong fault) = fault ≡ unknown session
IsUnknownUser session NoMemory = Unit {0}

-- it is the fault of the first session that has none; want of memory is free
abbrev pub IsFirstFault : List UserPlan → List SessionEntry → SessionFault → Type 0
IsFirstFault users sessions (Wrong fault) = (session : ℕ) × (first_none (each_user users sessions) ≡ Some session) × (fault ≡ unknown session)
IsFirstFault users sessions NoMemory = Unit {0}
