use Rattle.std.proofs.Common.{◌≤◌, ◌+◌}
use Rattle.apex_text.specs.Place.{IsPlace}
use Rattle.apex_text.proofs.place.line_of.Given as goal

abbrev pub invariant-loop-i : goal.invariant-loop-i
invariant-loop-i l = record { place : IsPlace l.text l.i l.line l.column; line : l.line ≤ l.i + 1; column : l.column ≤ l.i + 1 }
