use Rattle.std.proofs.Common.{refl}
use Rattle.builtin_names.specs.Names.{collection_methods}
use Rattle.builtin_names.proofs.rows.collection_rows.Goals as goal

pub returns : goal.returns
unfolding collection_methods
returns c = refl
