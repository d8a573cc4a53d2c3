use Rattle.std.proofs.Common.{rules}
use Rattle.std.specs.Char.{to_ascii_lowercase}
use Rattle.text_methods.proofs.Walks.{first_made, none_made}
use Rattle.text_methods.proofs.letters.uncapitalize.Goals as goal

pub returns-in-None : goal.returns-in-None
returns-in-None c = search (rules, none_made)

pub returns-in-Some : goal.returns-in-Some
returns-in-Some c = let e = first_made to_ascii_lowercase c.args.text.now c.in-Some.rest.now c.in-Some.first (search rules) c.in-Some.ensures.1 in search (rules, e)
