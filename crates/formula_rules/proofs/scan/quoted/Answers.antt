use Rattle.std.proofs.Common.{rules, arith, ◌≡◌, ◌<◌, ◌+◌, List, ℕ, drop, length, Some, subst, ap, ◌∙◌}
use Rattle.std.proofs.lemmas.List.{drop-drop}
use Rattle.formula_rules.specs.declared.token.Token.TheVariants.{Text}
use Rattle.formula_rules.specs.Tokens.{text_at}
use Rattle.formula_rules.proofs.Runs.{quoted_is}
use Rattle.formula_rules.proofs.scan.quoted.Goals as goal

pub returns-clause-cuts : goal.returns-clause-cuts
returns-clause-cuts c =
    let text = c.args.text.now in
    let inside = c.behind-inside.result.now in
    let size = c.run_length-size.result in
    let is : inside ≡ drop 1 text = c.behind-inside.ensures in
    let short : size < length inside = search rules in
    let found = quoted_is inside size c.in_ok-text_of.field-0 c.run_length-size.ensures.front c.run_length-size.ensures.rest short c.in_ok-text_of.ensures in
    let far : drop (size + 1) (drop 1 text) ≡ drop (size + 2) text = drop-drop (size + 1) 1 text ∙ ap (λ n. drop n text) (omega arith) in
    subst (λ (l : List ℕ). text_at l ≡ Some (Text c.in_ok-text_of.field-0, drop (size + 1) l)) is found ∙ ap (λ l. Some (Text c.in_ok-text_of.field-0, l)) far
