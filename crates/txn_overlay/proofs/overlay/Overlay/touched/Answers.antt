use Rattle.std.proofs.Common.{ap, ◌∙◌}
use Rattle.row_meaning.specs.Overlays.{touched_ids}
use Rattle.row_meaning.specs.Stores.{has_id}
use Rattle.txn_overlay.proofs.Steps.{touched_is}
use Rattle.txn_overlay.proofs.overlay.Overlay.touched.Goals as goal

pub returns : goal.returns
returns c = c.contains_key.ensures ∙ touched_is c.args.id.now c.self.inside.changes.entries ∙ ap (λ v. has_id (touched_ids v) c.args.id.now) c.self.view_is
