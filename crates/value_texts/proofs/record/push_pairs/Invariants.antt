use Rattle.std.proofs.Common.{drop}
use Rattle.value_texts.specs.Texts.{listed, pair_texts, known_cells}
use Rattle.value_texts.specs.Pieces.{tail_of}
use Rattle.value_texts.proofs.Joined.{Half}
use Rattle.value_texts.proofs.record.push_pairs.Given as goal

abbrev pub invariant-loop-i : goal.invariant-loop-i
invariant-loop-i l =
    Half l.line (tail_of l.first (pair_texts (known_cells (drop l.i l.fields) (drop l.i l.cells)))) l.fn.line (listed (pair_texts (known_cells l.fields l.cells)))
