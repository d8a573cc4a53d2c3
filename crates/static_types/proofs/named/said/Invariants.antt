use Rattle.std.proofs.Common.{◌≡◌, drop, map}
use Rattle.static_types.specs.Names.{shown, said}
use Rattle.static_types.proofs.named.said.Given as goal

abbrev pub invariant-loop-one : goal.invariant-loop-one
invariant-loop-one g l = said (map shown l.rows) l.name ≡ said (map shown (drop l.one-index l.rows)) l.name
