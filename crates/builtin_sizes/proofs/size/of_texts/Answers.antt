use Rattle.std.proofs.Common.{rules}
use Rattle.std.proofs.lemmas.Str.{chars-nil}
use Rattle.builtin_sizes.proofs.size.of_texts.Goals as goal

pub returns-in-Remove : goal.returns-in-Remove
returns-in-Remove c = search (rules, chars-nil)
