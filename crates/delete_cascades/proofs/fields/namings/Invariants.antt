use Rattle.std.proofs.Common.{◌≡◌, ◌++◌, drop}
use Rattle.save_statements.specs.Records.{namings_from}
use Rattle.delete_cascades.specs.Namings.{leads_by}
use Rattle.delete_cascades.proofs.fields.namings.Given as goal

abbrev pub invariant-loop-i : goal.invariant-loop-i
invariant-loop-i l =
    l.all ++ namings_from (leads_by l.lookups) l.i (drop l.i l.objects) ≡ namings_from (leads_by l.lookups) 0 l.objects
