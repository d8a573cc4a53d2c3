use Rattle.std.proofs.Common.{rules, ◌≡◌, Err}
use Rattle.type_names.specs.TypeTrees.{known}
use Rattle.type_names.proofs.TreeSteps.{args_fail, kind_fails, kind_is}
use Rattle.type_names.proofs.names.+types.Goals as goal

pub placed-returns-in_err-args : goal.placed-returns-in_err-args
placed-returns-in_err-args n c =
    let e : c.from_residual-in_err-args.result ≡ Err c.in_err-args.field-0.0 = search rules in
    rw e (args_fail (known c.args.names.now) c.args.tree.now c.as_slice.result.now c.as_slice.ensures c.in_ok-head.head c.in_ok-head.ensures c.in_err-args.field-0.0 c.in_err-args.ensures)

pub placed-returns-in_err-kind : goal.placed-returns-in_err-kind
placed-returns-in_err-kind n c =
    let e : c.from_residual-in_err-kind.result ≡ Err c.in_err-kind.field-0.0 = search rules in
    rw e (kind_fails (known c.args.names.now) c.args.tree.now c.as_slice.result.now c.as_slice.ensures c.in_ok-head.head c.in_ok-head.ensures c.in_ok-args.args c.in_ok-args.ensures c.in_err-kind.field-0.0 c.in_err-kind.ensures)

pub placed-returns : goal.placed-returns
placed-returns n c =
    rw c.in_ok-kind-2.ensures (kind_is (known c.args.names.now) c.args.tree.now c.as_slice.result.now c.as_slice.ensures c.in_ok-head.head c.in_ok-head.ensures c.in_ok-args.args c.in_ok-args.ensures c.in_ok-kind.kind c.in_ok-kind.ensures)
