use Rattle.std.proofs.Common.{◌≡◌, take, map}
use Rattle.std.specs.List.{list_all}
use Rattle.schema_build.specs.Lookups.{masters_in, flag_at}
use Rattle.schema_build.proofs.heights.ends_next.Given as goal

abbrev pub invariant-loop-own : goal.invariant-loop-own
invariant-loop-own l = l.all.items ≡ map (list_all (flag_at l.flags)) (map masters_in (take l.own-index l.masters))
