use Rattle.std.proofs.Common.{◌≡◌, drop}
use Rattle.std.specs.List.{list_all}
use Rattle.schema_build.specs.Lookups.{flag_at}
use Rattle.schema_build.proofs.heights.all_end.Given as goal

abbrev pub invariant-loop-object : goal.invariant-loop-object
invariant-loop-object l = list_all (flag_at l.flags) (drop l.object-index l.objects) ≡ list_all (flag_at l.flags) l.objects
