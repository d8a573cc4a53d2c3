use Rattle.std.proofs.Common.{◌≡◌, drop}
use Rattle.std.specs.List.{flat_map}
use Rattle.query_meaning.specs.Parents.{cond_paths}
use Rattle.query_questions.specs.Ways.{leading, with_ways}
use Rattle.query_questions.proofs.parents.+conditions.Given as goal

abbrev pub invariant-add_conds-loop-cond : goal.invariant-add_conds-loop-cond
invariant-add_conds-loop-cond l =
    with_ways l.ways.keys (leading (flat_map cond_paths (drop l.cond-index l.conds))) ≡ with_ways l.initial.ways.keys (leading (flat_map cond_paths l.conds))
