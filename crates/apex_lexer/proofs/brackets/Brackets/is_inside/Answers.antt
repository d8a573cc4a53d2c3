use Rattle.std.proofs.Common.{ap, ◌∙◌, subst, take}
use Rattle.apex_lexer.proofs.Unclosed.{is_inside, looked_places}
use Rattle.apex_lexer.specs.declared.brackets.Part.TheVariants.{Code}
use Rattle.apex_lexer.specs.Brackets.{part_after, opened}
use Rattle.apex_lexer.specs.Unclosed.{IsBelow}
use Rattle.apex_lexer.proofs.brackets.Brackets.is_inside.Goals as goal

pub returns-clause-answer : goal.returns-clause-answer
returns-clause-answer c =
    let b = c.go_to.new.self in
    let k = c.go_to.ensures.cursor in
    is_inside c.args.text.now c.args.at b.passed b.depth b.part b.unclosed.items c.requires.to
    (k.part ∙ ap (λ n. part_after Code (take n c.args.text.now)) c.go_to.ensures.at)
    (k.depth_is ∙ ap (λ n. opened Code 0 (take n c.args.text.now)) c.go_to.ensures.at)
    (looked_places b.looked b.unclosed.items c.args.text.now c.go_to.ensures.looked k.places)
    (subst (IsBelow b.unclosed.items b.passed) c.go_to.ensures.at k.passed)
    c.go_to.ensures.next
