use Rattle.std.proofs.Common.{◌≡◌, drop}
use Rattle.serde_json.specs.View.{items_view}
use Rattle.bundle_read.specs.Readings.{each}
use Rattle.bundle_read.specs.Bundles.{row}
use Rattle.bundle_read.proofs.Items.{prefixed}
use Rattle.bundle_read.proofs.rows.each_row.Given as goal

abbrev pub invariant-rows : goal.invariant-rows
invariant-rows l = prefixed l.all (each row l.i (items_view (drop l.i l.list))) ≡ each row 0 (items_view l.list)
