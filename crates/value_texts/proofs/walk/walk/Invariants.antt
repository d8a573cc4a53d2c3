use Rattle.std.proofs.Common.{◌≡◌, ◌+◌, ◌≤◌, ◌++◌, length}
use Rattle.std.specs.Prelude.{string_bytes}
use Rattle.value_texts.specs.Texts.{text_of}
use Rattle.value_texts.specs.Pieces.{pends, effort}
use Rattle.value_texts.proofs.walk.walk.Given as goal

abbrev pub invariant-loop-rest : goal.invariant-loop-rest
invariant-loop-rest l =
    (string_bytes l.line.text ++ pends l.scene l.stack ≡ text_of l.scene.schema.now l.scene.classes.now l.scene.heap.now l.value) × (l.line.left + length (string_bytes l.line.text) ≡ l.most)
    × (length l.stack ≤ length (string_bytes l.line.text))

abbrev pub decreases-loop-rest : goal.decreases-loop-rest
decreases-loop-rest l = effort l.line.left l.stack
