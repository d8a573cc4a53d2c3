-- What events make of sessions (docs/platform.md, "Shards").
use Rattle.std.specs.Prelude.{ℕ, List, slice_set}
use Rattle.session_states.specs.States.{begins_again, grants, opens}
use Rattle.legal_trails.specs.Legal.{Session, closing, tell}
use Rattle.tenant_shards.specs.declared.change.Change.{Change}
use Rattle.tenant_shards.specs.declared.change.Change.TheVariants.{Starts, Grabs, Restarts, Closes}

-- session s, which is the one given, is changed; what it wrote is news to the others
abbrev pub changed : Change → ℕ → List Session → Session → List Session
changed Starts s sessions at = slice_set sessions s (opens at)
changed Grabs s sessions at = slice_set sessions s (grants at)
changed Restarts s sessions at = slice_set sessions s (begins_again at)
changed (Closes wrote) s sessions at = tell wrote s (slice_set sessions s (closing at))
