use Rattle.std.proofs.Common.{◌≡◌, drop}
use Rattle.std.specs.List.{list_all}
use Rattle.apex_rows.specs.declared.query.Query.TheViews.{out-SubQuery}
use Rattle.apex_rows.specs.declared.query.SubQuery.{SubQuery}
use Rattle.query_meaning.specs.Queries.{has_numbers}
use Rattle.query_questions.proofs.numbers.all_have_numbers.Given as goal

abbrev pub invariant-loop-sub : goal.invariant-loop-sub
invariant-loop-sub l =
    list_all (λ (sub : SubQuery). has_numbers l.binds (out-SubQuery sub).query) (drop l.sub-index l.subs) ≡ list_all (λ (sub : SubQuery). has_numbers l.binds (out-SubQuery sub).query) l.subs
