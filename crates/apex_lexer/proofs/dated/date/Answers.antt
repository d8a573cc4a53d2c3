use Rattle.std.proofs.Common.{rules, ◌≡◌, inl, inr, refl, sym, ap, ◌∙◌, Some, None, w32, FitsSigned}
use Rattle.std.proofs.lemmas.Int.{to_z-of_z}
use Rattle.apex_lexer.specs.declared.token.TokenKind.TheVariants.{Date}
use Rattle.apex_lexer.specs.declared.lexeme.Lexeme.TheVariants.{Says}
use Rattle.apex_lexer.proofs.dated.date.Goals as goal

pub returns-in-Some-clause-says : goal.returns-in-Some-clause-says
returns-in-Some-clause-says c =
    let fits : FitsSigned w32 c.in-Some.day = search rules in
    inl (c.in-Some.day, sym c.in-Some.ensures, ap (λ n. Says (Date n)) (to_z-of_z w32 c.in-Some.day fits))

pub returns-in-None-clause-says : goal.returns-in-None-clause-says
returns-in-None-clause-says c = inr (λ day e. let f : None ≡ Some day = c.in-None.ensures ∙ e in absurd (cc), refl)
