use Rattle.std.proofs.Common.{subst, sym, ◌∙◌}
use Rattle.apex_lexer.specs.Lexemes.{DateSays, MomentSays}
use Rattle.apex_lexer.proofs.Dates.{date_long, moment_long, moment_first, date_first}
use Rattle.apex_lexer.proofs.dated.dated.Goals as goal

pub returns-then-begins_moment-clause-first : goal.returns-then-begins_moment-clause-first
returns-then-begins_moment-clause-first c =
    moment_first c.args.text.now c.moment.result (sym c.begins_moment.ensures ∙ c.if-begins_moment.true) (subst (λ l. MomentSays l c.moment.result) c.split_at.ensures.front c.moment.ensures.says)

pub returns-clause-first : goal.returns-clause-first
returns-clause-first c =
    date_first c.args.text.now c.date.result c.requires (λ m. let e = c.begins_moment.ensures ∙ m in let f = c.if-begins_moment.false in absurd (cc)) (subst (λ l. DateSays l c.date.result) c.split_at-2.ensures.front c.date.ensures.says)

pub split_at-requires : goal.split_at-requires
split_at-requires c = moment_long c.args.text.now (sym c.begins_moment.ensures ∙ c.if-begins_moment.true)

pub split_at-requires-2 : goal.split_at-requires-2
split_at-requires-2 c = date_long c.args.text.now c.requires
