use Rattle.std.proofs.Common.{◌∙◌, ◌++◌, [], ◌∷◌, ap, map}
use Rattle.apex_lexer.specs.Reading.{shown}
use Rattle.apex_lexer.proofs.Readings.{broken_whole, all_tokens, shown_more}
use Rattle.apex_lexer.proofs.lexer.finish.Goals as goal

pub returns-in-Some : goal.returns-in-Some
returns-in-Some c = broken_whole c.args.text.now (map shown c.args.tokens.items) c.in-Some.invalid c.requires c.in-Some.ensures

pub returns : goal.returns
returns c =
    all_tokens c.args.text.now (map shown c.args.tokens.items) _ c.requires c.in_default.ensures
    (shown_more c.args.tokens.items c.push.new.self.items c.end_of.result c.in_ok-push.ensures.items ∙ ap (λ t. map shown c.args.tokens.items ++ t ∷ []) c.end_of.ensures)
