use Rattle.std.proofs.Common.{rules, ◌∙◌, ◌++◌, ap, sym}
use Rattle.text_methods.proofs.Occurs.{ends_not, ends_so}
use Rattle.text_methods.proofs.finds.strip_end.Goals as goal

pub returns-in-None : goal.returns-in-None
returns-in-None c = ends_not c.args.text.now c.args.of.now (search rules) (search rules) c.in-None.ensures.cases

pub returns-in-Some : goal.returns-in-Some
returns-in-Some c =
    let h = c.in-Some.ensures.cases in
    ends_so c.args.text.now c.args.of.now c.in-Some.rest.now c.utf8.of (search rules) (h.1.1 ∙ ap (λ y. y ++ c.args.of.now) (sym h.2))
