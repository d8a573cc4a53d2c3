use Rattle.std.proofs.Common.{◌+◌, drop}
use Rattle.value_texts.specs.Texts.{known_cells, pair_texts}
use Rattle.value_texts.specs.Pieces.{tail_of, piece, still_first}
use Rattle.value_texts.proofs.Joined.{half_all, half_stopped, known_none, piece_then, tail_nothing}
use Rattle.value_texts.proofs.record.push_pairs.Goals as goal

pub returns-in_default : goal.returns-in_default
returns-in_default c =
    half_all _ _ c.args.line.now c.loop-i.line c.loop-i.invariant
    (tail_nothing c.loop-i.first _ (known_none c.loop-i.i c.args.fields.now c.args.cells.now c.in_default.ensures.lookup.3))

pub returns-in_err-push_known : goal.returns-in_err-push_known
returns-in_err-push_known c =
    half_stopped (piece c.loop-i.first c.index-fields-i.result c.in-Some.cell.now) _
    (tail_of (still_first c.loop-i.first c.in-Some.cell.now) (pair_texts (known_cells (drop (c.loop-i.i + 1) c.args.fields.now) (drop (c.loop-i.i + 1) c.args.cells.now)))) _ c.args.line.now c.loop-i.line c.push_known.new.line _ _
    c.from_residual.ensures c.loop-i.invariant
    (piece_then c.loop-i.first c.loop-i.i c.args.fields.now c.index-fields-i.result c.args.cells.now c.in-Some.cell.now c.loop-i-test.true c.index-fields-i.is c.in-Some.ensures.lookup.3.0 c.in-Some.ensures.lookup.1)
    c.in_err-push_known.ensures
