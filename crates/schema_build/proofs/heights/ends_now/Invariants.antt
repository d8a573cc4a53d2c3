use Rattle.std.proofs.Common.{◌≡◌, take, map}
use Rattle.schema_build.specs.Lookups.{masters_in}
use Rattle.schema_plans.specs.Plans.{is_empty}
use Rattle.schema_build.proofs.heights.ends_now.Given as goal

abbrev pub invariant-loop-own : goal.invariant-loop-own
invariant-loop-own l = l.all.items ≡ map is_empty (map masters_in (take l.own-index l.masters))
