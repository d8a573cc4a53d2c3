-- Triggers with their numbers, as they are sorted.
use Rattle.std.specs.Prelude.{ℕ}
use Rattle.std.specs.declared.cmp.Ordering.{Ordering}
use Rattle.apex_meaning.specs.Firings.{by_name}
use Rattle.compile_unit.specs.declared.firings.Ranked.{Ranked}
use Rattle.typed_program.specs.declared.unit.TypedTrigger.{TypedTrigger}

abbrev pub numbered_of : Ranked → ℕ × TypedTrigger
numbered_of r = (r.number, r.trigger.now)

abbrev pub ranks_order : Ranked → Ranked → Ordering
ranks_order a b = by_name (numbered_of a) (numbered_of b)
