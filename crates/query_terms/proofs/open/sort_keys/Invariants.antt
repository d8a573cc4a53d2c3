use Rattle.std.proofs.Common.{◌≡◌, drop, map}
use Rattle.query_terms.specs.OpenQueries.{key_walks}
use Rattle.query_terms.specs.Paths.{sort_key}
use Rattle.type_names.specs.Walks.{all}
use Rattle.type_names.proofs.WalkSteps.{behind}
use Rattle.query_terms.proofs.open.sort_keys.Given as goal

abbrev pub invariant-loop-key : goal.invariant-loop-key
invariant-loop-key l =
    all (key_walks l.words.schema.now.objects l.object l.order) ≡ behind l.keys (all (map (sort_key l.words.schema.now.objects l.object) (drop l.key-index l.order.keys)))
