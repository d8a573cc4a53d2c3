use Rattle.std.proofs.Common.{◌≡◌, ◌++◌}
use Rattle.serde_json.specs.View.{members_view}
use Rattle.bundle_read.specs.Bundles.{cells}
use Rattle.bundle_read.proofs.rows.cells.Given as goal

abbrev pub invariant-loop-name : goal.invariant-loop-name
invariant-loop-name l = l.all ++ cells (members_view l.name-iterator) ≡ cells (members_view l.fn.members.entries)
