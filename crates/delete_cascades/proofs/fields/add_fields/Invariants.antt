use Rattle.std.proofs.Common.{◌≡◌, ◌++◌, drop}
use Rattle.save_statements.specs.Records.{namings_in}
use Rattle.delete_cascades.specs.Namings.{leads_by}
use Rattle.delete_cascades.proofs.fields.add_fields.Given as goal

abbrev pub invariant-loop-i : goal.invariant-loop-i
invariant-loop-i l =
    l.namings ++ namings_in (leads_by l.lookups) l.object l.i (drop l.i l.fields) ≡ l.initial.namings ++ namings_in (leads_by l.lookups) l.object 0 l.fields
