use Rattle.std.proofs.Common.{refl}
use Rattle.static_types.specs.Names.{platform_names}
use Rattle.static_types.proofs.named.platform_rows.Goals as goal

pub returns : goal.returns
unfolding platform_names
returns c = refl
