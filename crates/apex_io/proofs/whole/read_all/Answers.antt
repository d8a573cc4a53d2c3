use Rattle.apex_io.proofs.Pieces.{later_cause}
use Rattle.apex_io.proofs.whole.read_all.Goals as goal

pub returns-in-Err-clause-answer : goal.returns-in-Err-clause-answer
returns-in-Err-clause-answer g c =
    let k = c.pulls.invariant in
    later_cause c.in-Err.fault c.args.most (g.S.Source.left c.args.source.now) (g.S.Source.left c.pulls.source) (g.S.Source.left c.read_piece.new.source) c.pulls.bytes.items _ _ _ k.within k.taken k.counted c.in-Err.ensures.answer
