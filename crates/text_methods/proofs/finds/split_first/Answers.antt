use Rattle.std.proofs.Common.{rules}
use Rattle.text_methods.proofs.Occurs.{first_none, first_split}
use Rattle.text_methods.proofs.finds.split_first.Goals as goal

pub returns-in-None : goal.returns-in-None
returns-in-None c = first_none c.args.text.now c.args.of.now (search rules) (search rules) c.in-None.ensures.cases

pub returns-in-Some : goal.returns-in-Some
returns-in-Some c =
    let h = c.in-Some.ensures.cases in
    first_split c.args.text.now c.args.of.now c.in-Some.front.now c.in-Some.back.now h.0 h.1 (search rules) (search rules) (search rules) h.2 h.3 h.4 h.6
