use Rattle.std.proofs.Common.{◌≡◌, map, drop}
use Rattle.builtin_names.specs.Names.{form, found}
use Rattle.builtin_names.proofs.table.found.Given as goal

abbrev pub invariant-loop-row : goal.invariant-loop-row
invariant-loop-row l = found (map form (drop l.row-index l.rows)) l.kind l.name l.count ≡ found (map form l.rows) l.kind l.name l.count
