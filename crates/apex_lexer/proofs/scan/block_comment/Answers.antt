use Rattle.std.proofs.Common.{◌∙◌, sym, arith}
use Rattle.apex_lexer.proofs.Literals.{block_start, block_more, block_closed, block_open, second_long}
use Rattle.apex_lexer.proofs.scan.block_comment.Goals as goal

pub loop-i-init : goal.loop-i-init
loop-i-init c = block_start c.args.text.now

pub returns-then-ends_comment : goal.returns-then-ends_comment
returns-then-ends_comment c =
    block_closed c.args.text.now c.loop-i.i c.loop-i-test.true c.loop-i.auto.i c.loop-i.star c.requires (sym c.ends_comment.ensures ∙ c.if-ends_comment.true) c.loop-i.invariant

pub loop-i-preserved : goal.loop-i-preserved
loop-i-preserved c =
    block_more c.args.text.now c.loop-i.i c.loop-i-test.true c.loop-i.auto.i c.loop-i.star (sym c.ends_comment.ensures ∙ c.if-ends_comment.false) c.loop-i.invariant

pub returns : goal.returns
returns c =
    let long = second_long _ c.args.text.now c.requires in
    block_open c.args.text.now c.loop-i.i c.loop-i.star long (let t = c.loop-i-test.false in let l = c.loop-i.auto.i-end in omega arith) c.requires c.loop-i.invariant
