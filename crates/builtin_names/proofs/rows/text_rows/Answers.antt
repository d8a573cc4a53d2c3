use Rattle.std.proofs.Common.{refl}
use Rattle.builtin_names.specs.Names.{text_methods}
use Rattle.builtin_names.proofs.rows.text_rows.Goals as goal

pub returns : goal.returns
unfolding text_methods
returns c = refl
