use Rattle.std.proofs.Common.{◌≡◌, drop}
use Rattle.serde_json.specs.View.{items_view}
use Rattle.bundle_read.specs.Readings.{each}
use Rattle.bundle_read.proofs.Items.{prefixed}
use Rattle.bundle_read.proofs.lists.each.Given as goal

abbrev pub invariant-items : goal.invariant-items
invariant-items g l = prefixed l.all (each g.T.Entry.reads l.i (items_view (drop l.i l.list))) ≡ each g.T.Entry.reads 0 (items_view l.list)
