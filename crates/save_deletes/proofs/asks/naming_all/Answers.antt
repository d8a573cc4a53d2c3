use Rattle.std.proofs.Common.{arith}
use Rattle.save_deletes.proofs.Down.{field_found, field_wants, fields_begin, fields_end}
use Rattle.save_deletes.proofs.asks.naming_all.Goals as goal

pub loop-i-init : goal.loop-i-init
loop-i-init c = λ rows heads. fields_begin c.args.overlay.now c.args.namings.now rows c.args.answers.now c.args.answers.now c.new-all.result c.new-all.ensures

pub returns-in-Wants : goal.returns-in-Wants
returns-in-Wants c = λ rows heads.
    field_wants c.args.overlay.now c.args.namings.now rows c.args.answers.now c.loop-i.answers c.loop-i.all c.loop-i.i (c.loop-i.invariant rows heads) _ c.loop-i-test.true
    c.in-Wants.question c.naming_heads.new.answers c.in_ok-question.field-0 c.in-Wants.is (c.in_ok-question.ensures rows heads)

pub loop-i-preserved : goal.loop-i-preserved
loop-i-preserved c = λ rows heads.
    field_found c.args.overlay.now c.args.namings.now rows c.args.answers.now c.loop-i.answers c.loop-i.all c.loop-i.i (c.loop-i.invariant rows heads) _ c.loop-i-test.true
    c.in-Found.rows c.naming_heads.new.answers c.push.new.self c.in_ok-question.field-0 c.in-Found.is (c.in_ok-question.ensures rows heads) c.in_ok-push.ensures.ok

pub returns : goal.returns
returns c = λ rows heads. fields_end c.args.overlay.now c.args.namings.now rows c.args.answers.now c.loop-i.answers c.loop-i.all c.loop-i.i (c.loop-i.invariant rows heads) (omega arith)
