use Rattle.std.proofs.Common.{rules, ◌∙◌, ◌++◌, ap, sym}
use Rattle.text_methods.proofs.Occurs.{lacks, starts}
use Rattle.text_methods.proofs.finds.strip_start.Goals as goal

pub returns-in-None : goal.returns-in-None
returns-in-None c = lacks c.args.text.now c.args.of.now 0 (search rules) (search rules) c.in-None.ensures.cases

pub returns-in-Some : goal.returns-in-Some
returns-in-Some c =
    let h = c.in-Some.ensures.cases in
    starts c.args.text.now c.args.of.now c.in-Some.rest.now c.utf8.of (search rules) (h.1.1 ∙ ap (λ y. c.args.of.now ++ y) (sym h.2))
