use Rattle.std.proofs.Common.{◌+◌, ◌-◌, ◌*◌, ◌<◌, ◌≤◌, length}
use Rattle.formula_rules.specs.Grammar.{IsFormulaWithin}
use Rattle.formula_rules.proofs.Eaches.{SoFar}
use Rattle.formula_rules.proofs.grammar.+formula.Given as goal

abbrev pub decreases-formula : goal.decreases-formula
decreases-formula l = 4 * l.room + 1

abbrev pub decreases-call : goal.decreases-call
decreases-call l = 4 * l.room

abbrev pub decreases-inside_of : goal.decreases-inside_of
decreases-inside_of l = 4 * l.room + 3

abbrev pub decreases-each : goal.decreases-each
decreases-each l = 4 * l.room + 2

abbrev pub invariant-each-loop-behind : goal.invariant-each-loop-behind
invariant-each-loop-behind l = record { so_far : SoFar (IsFormulaWithin l.fields.names.items l.room) l.tokens l.at l.rules l.end; on : l.at < l.end; within : l.end ≤ length l.tokens }

abbrev pub decreases-each-loop-behind : goal.decreases-each-loop-behind
decreases-each-loop-behind l = length l.tokens - l.end
