-- What is to be shown of saves.
use Rattle.std.specs.Prelude.{◌≡◌, ℕ, true, List}
use Rattle.apex_requests.specs.declared.request.Op.{Op}
use Rattle.apex_requests.specs.declared.request.SaveRow.{SaveRow}
use Rattle.platform_errors.specs.declared.thrown.Thrown.{Thrown}
use Rattle.save_meaning.specs.Sites.{Site}
use Rattle.save_meaning.specs.Results.{Leaves, Stops}
use Rattle.save_meaning.specs.Transactions.{Keeps, IsKept}
use Rattle.save_statements.specs.declared.pending.Manner.{Manner}
use Rattle.save_statements.specs.Phases.{Code}
use Rattle.save_statements.specs.Statements.{save}

-- whatever a request's state is, a statement of all or none that throws leaves the overlay as it found it, whatever its triggers did
abbrev pub FailedSavesChangeNothing : Type 0 → Type 0
FailedSavesChangeNothing S =
    (keeps : Keeps S) → IsKept keeps → (site : Site) (code : Code S) (op : Op) (by : Manner) (object : ℕ) (rows : List SaveRow) (s later : S) (why : Thrown) →
    save keeps site code op by object true rows s ≡ Stops (Leaves why) later → (keeps.txn later).overlay ≡ (keeps.txn s).overlay
