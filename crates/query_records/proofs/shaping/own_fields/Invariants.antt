use Rattle.std.proofs.Common.{◌≡◌, ◌∷◌, ◌++◌, map, drop}
use Rattle.apex_rows.specs.declared.query.Path.{Path}
use Rattle.query_records.specs.Shapes.{shorter}
use Rattle.query_records.proofs.shaping.own_fields.Given as goal

abbrev pub invariant-loop-path : goal.invariant-loop-path
invariant-loop-path l = l.own ++ map (λ (p : Path). p.field) (shorter (drop l.path-index l.paths)) ≡ 0 ∷ map (λ (p : Path). p.field) (shorter l.paths)
