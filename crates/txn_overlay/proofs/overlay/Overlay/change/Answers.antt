use Rattle.std.proofs.Common.{ap, ◌∙◌}
use Rattle.std.specs.Option.{option_map}
use Rattle.txn_overlay.specs.Changes.{shown, found_in}
use Rattle.txn_overlay.proofs.Undoing.{found_is, seen_through}
use Rattle.txn_overlay.proofs.overlay.Overlay.change.Goals as goal

pub returns : goal.returns
returns c =
    seen_through shown c.get.result ∙ ap (option_map shown) c.get.ensures.value ∙ found_is c.args.id.now c.self.inside.changes.entries ∙ ap (λ v. found_in v c.args.id.now) c.self.view_is
