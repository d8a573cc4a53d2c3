use Rattle.bundle_read.proofs.Inside.{bounded, are_short, named_apart}
use Rattle.bundle_read.proofs.laws.laws_of_bundles.Goals as goal

pub returns : goal.returns
returns c = record { bounds = bounded; short = are_short; names = named_apart }
