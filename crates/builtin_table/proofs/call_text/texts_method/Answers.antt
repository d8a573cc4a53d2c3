use Rattle.std.proofs.Common.{rules}
use Rattle.std.proofs.lemmas.Str.{chars-nil}
use Rattle.builtin_table.proofs.call_text.texts_method.Goals as goal

pub returns-in_ok-replace-in-Remove : goal.returns-in_ok-replace-in-Remove
returns-in_ok-replace-in-Remove c = search (rules, chars-nil)
