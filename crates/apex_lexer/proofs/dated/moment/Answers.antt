use Rattle.std.proofs.Common.{rules, ◌≡◌, inl, inr, refl, sym, ap, ◌∙◌, Some, None, w64, FitsSigned}
use Rattle.std.proofs.lemmas.Int.{to_z-of_z}
use Rattle.apex_lexer.specs.declared.token.TokenKind.TheVariants.{Moment}
use Rattle.apex_lexer.specs.declared.lexeme.Lexeme.TheVariants.{Says}
use Rattle.apex_lexer.proofs.dated.moment.Goals as goal

pub returns-in-Some-clause-says : goal.returns-in-Some-clause-says
returns-in-Some-clause-says c =
    let fits : FitsSigned w64 c.in-Some.at = search rules in
    inl (c.in-Some.at, sym c.in-Some.ensures, ap (λ n. Says (Moment n)) (to_z-of_z w64 c.in-Some.at fits))

pub returns-in-None-clause-says : goal.returns-in-None-clause-says
returns-in-None-clause-says c = inr (λ at e. let f : None ≡ Some at = c.in-None.ensures ∙ e in absurd (cc), refl)
