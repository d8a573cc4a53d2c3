use Rattle.std.proofs.Common.{refl}
use Rattle.static_types.specs.Names.{type_names}
use Rattle.static_types.proofs.named.type_rows.Goals as goal

pub returns : goal.returns
unfolding type_names
returns c = refl
