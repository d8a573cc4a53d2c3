use Rattle.std.proofs.Common.{◌≡◌, ◌++◌, ℕ, List, map, drop}
use Rattle.apex_num.specs.declared.cell.Cell.TheVariants.{Id}
use Rattle.apex_rows.specs.declared.query.Term.TheVariants.{Given}
use Rattle.answer_replay.proofs.questions.terms.Given as goal

abbrev pub invariant-loop-id : goal.invariant-loop-id
invariant-loop-id l = l.terms ++ map (λ (i : List ℕ). Given (Id i)) (drop l.id-index l.ids) ≡ map (λ (i : List ℕ). Given (Id i)) l.ids
