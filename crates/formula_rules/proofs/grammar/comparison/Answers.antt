use Rattle.std.proofs.Common.{rules, ◌≡◌, Err}
use Rattle.formula_rules.proofs.Told.{left_fails, right_fails, compares}
use Rattle.formula_rules.proofs.grammar.comparison.Goals as goal

pub returns-in_err-left-clause-told : goal.returns-in_err-left-clause-told
returns-in_err-left-clause-told c =
    let e : c.from_residual.result ≡ Err c.in_err-left.field-0.0 = search rules in
    rw e (left_fails c.args.fields.now.names.items c.args.room c.args.tokens.now c.args.at c.in_err-left.field-0.0 c.in_err-left.ensures.told)

pub returns-in_err-right-clause-told : goal.returns-in_err-right-clause-told
returns-in_err-right-clause-told c =
    let e : c.from_residual-in_err-right.result ≡ Err c.in_err-right.field-0.0 = search rules in
    rw e (right_fails c.args.fields.now.names.items c.args.room c.args.tokens.now c.args.at c.in_ok-left.left c.in_ok-left.middle c.in_ok-left.ensures.told c.in_ok-op.op c.in_ok-op.behind c.in_ok-op.ensures.at
    c.in_err-right.field-0.0 c.in_err-right.ensures.told)

pub returns-clause-told : goal.returns-clause-told
returns-clause-told c =
    rw c.in_ok-new.ensures (compares c.args.fields.now.names.items c.args.room c.args.tokens.now c.args.at c.in_ok-left.left c.in_ok-left.middle c.in_ok-left.ensures.told c.in_ok-op.op c.in_ok-op.behind c.in_ok-op.ensures.at
    c.in_ok-right.right c.in_ok-right.end c.in_ok-right.ensures.told)
