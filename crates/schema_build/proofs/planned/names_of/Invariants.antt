use Rattle.std.proofs.Common.{◌≡◌, take, map}
use Rattle.apex_text.specs.Fold.{folded}
use Rattle.schema_build.proofs.planned.names_of.Given as goal

abbrev pub invariant-loop-item : goal.invariant-loop-item
invariant-loop-item g l = l.names.items ≡ map (λ x. folded (g.T.Planned.name x)) (take l.item-index l.items)
