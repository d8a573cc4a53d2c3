-- What is to be shown of sessions and their users: all sessions have users, told in one way, or one session is the first without, and not both.
use Rattle.std.specs.Prelude.{◌≡◌, ℕ, List}
use Rattle.std.proofs.Common.{◌⊎◌}
use Rattle.schema_plans.specs.declared.plan.UserPlan.{UserPlan}
use Rattle.fault_words.specs.declared.fault.Fault.{Fault}
use Rattle.bundle_read.specs.declared.entries.SessionEntry.{SessionEntry}
use Rattle.tenant_sessions.specs.declared.users.SessionFault.TheVariants.{Wrong}
use Rattle.tenant_sessions.specs.Users.{AreUsers, IsFirstFault}

abbrev pub UsersOrFault : Type 0
UsersOrFault = (users : List UserPlan) (sessions : List SessionEntry) → ((all : List ℕ) × AreUsers users sessions all) ⊎ ((fault : Fault) × IsFirstFault users sessions (Wrong fault))

abbrev pub NotBoth : Type 0
NotBoth = (users : List UserPlan) (sessions : List SessionEntry) (all : List ℕ) (fault : Fault) → AreUsers users sessions all → IsFirstFault users sessions (Wrong fault) → ⊥

abbrev pub UsersAreOnly : Type 0
UsersAreOnly = (users : List UserPlan) (sessions : List SessionEntry) (all other : List ℕ) → AreUsers users sessions all → AreUsers users sessions other → other ≡ all

abbrev pub FaultIsOnly : Type 0
FaultIsOnly = (users : List UserPlan) (sessions : List SessionEntry) (fault other : Fault) → IsFirstFault users sessions (Wrong fault) → IsFirstFault users sessions (Wrong other) → other ≡ fault
