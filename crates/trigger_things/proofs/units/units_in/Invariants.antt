use Rattle.std.proofs.Common.{◌≡◌, ◌+◌, ◌<◌, ◌^◌, drop}
use Rattle.trigger_things.specs.Capped.{capped}
use Rattle.trigger_things.specs.Things.{units_in}
use Rattle.trigger_things.proofs.units.units_in.Given as goal

abbrev pub invariant-loop-row : goal.invariant-loop-row
invariant-loop-row l = record {
  same : capped (l.sum + units_in l.schema (drop l.row-index l.rows)) ≡ capped (l.initial.sum + units_in l.schema l.rows);
  fits : l.sum < 2 ^ 64;
}
