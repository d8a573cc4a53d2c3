use Rattle.row_access.specs.Ranks.{AllTell, Tells}
use Rattle.row_access.proofs.ranks.note.Given as goal

abbrev pub invariant-up : goal.invariant-up
invariant-up l = AllTell l.roles l.wanted l.ranks × Tells l.roles l.wanted l.next l.at

abbrev pub decreases-up : goal.decreases-up
decreases-up l = l.left
