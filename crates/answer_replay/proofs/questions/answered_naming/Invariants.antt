use Rattle.std.proofs.Common.{◌≡◌, ◌++◌}
use Rattle.std.specs.Prelude.{filter}
use Rattle.save_meaning.specs.Inserts.{rows_of_answer}
use Rattle.row_meaning.specs.Overlays.{merged}
use Rattle.save_statements.specs.Records.{names_one}
use Rattle.answer_replay.proofs.questions.answered_naming.Given as goal

abbrev pub invariant-loop-row : goal.invariant-loop-row
invariant-loop-row l =
    l.kept ++ filter (names_one l.field.field l.ids) l.row-iterator.rest.items ≡ filter (names_one l.field.field l.ids) (merged l.overlay l.field.object (rows_of_answer l.answer))
