use Rattle.std.proofs.Common.{rules}
use Rattle.std.specs.Str.{IsAscii}
use Rattle.std.proofs.lemmas.Str.{chars_from_encodes, chars-IsAscii}
use Rattle.apex_num.proofs.text.Text.length.Goals as goal

pub returns-then-self-clause-value : goal.returns-then-self-clause-value
returns-then-self-clause-value c =
    let ascii : IsAscii c.args.self.now = search rules in
    search (rules, chars-IsAscii c.args.self.now ascii)

pub returns-clause-value : goal.returns-clause-value
returns-clause-value c = search (rules, chars_from_encodes)
