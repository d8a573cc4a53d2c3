use Rattle.std.proofs.Common.{◌≡◌, map, drop}
use Rattle.apex_rows.specs.declared.query.SortKey.{SortKey}
use Rattle.query_questions.specs.Ways.{leading, with_ways}
use Rattle.query_questions.proofs.parents.add_keys.Given as goal

abbrev pub invariant-loop-key : goal.invariant-loop-key
invariant-loop-key l =
    with_ways l.ways.keys (leading (map (λ (k : SortKey). k.path) (drop l.key-index l.keys))) ≡ with_ways l.initial.ways.keys (leading (map (λ (k : SortKey). k.path) l.keys))
