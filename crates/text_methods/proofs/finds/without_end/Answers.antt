use Rattle.std.proofs.Common.{rules}
use Rattle.std.proofs.lemmas.Str.{encodes-chars}
use Rattle.text_methods.proofs.finds.without_end.Goals as goal

pub returns-in-None : goal.returns-in-None
returns-in-None c = search (rules, encodes-chars)
