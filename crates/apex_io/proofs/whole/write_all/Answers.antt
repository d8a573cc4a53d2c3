use Rattle.std.proofs.Common.{◌≡◌, ◌++◌, take, ap, sym, ◌∙◌, arith}
use Rattle.std.proofs.lemmas.List.{take-append-drop}
use Rattle.apex_io.proofs.Pieces.{rose_since, sent_front, sent_more}
use Rattle.apex_io.proofs.whole.write_all.Goals as goal

pub returns-in-Failed-clause-answer : goal.returns-in-Failed-clause-answer
returns-in-Failed-clause-answer g c =
    let k = c.loop-rest.invariant in
    (rose_since _ _ _ k.counted c.in-Failed.ensures.answer.0, sent_front c.args.text.now k.sent.0 c.loop-rest.rest.now (g.K.Sink.held c.args.sink.now) (g.K.Sink.held c.loop-rest.sink) (g.K.Sink.held c.push.new.self) k.sent.1 k.sent.2 c.in-Failed.ensures.answer.1)

pub loop-rest-preserved : goal.loop-rest-preserved
loop-rest-preserved g c =
    let rest = c.loop-rest.rest.now in
    let k = c.loop-rest.invariant in
    let n = c.in-Took.n in
    let whole : rest ≡ take n rest ++ c.split_at.result.1.now = sym (take-append-drop n rest) ∙ ap (λ b. take n rest ++ b) (sym c.split_at.ensures.back) in
    record {
      sent = sent_more c.args.text.now rest (take n rest) c.split_at.result.1.now (g.K.Sink.held c.args.sink.now) (g.K.Sink.held c.loop-rest.sink) (g.K.Sink.held c.push.new.self) k.sent whole c.in-Took.ensures.answer.2;
      counted = omega (arith, c.in-Took.ensures.counted);
    }
