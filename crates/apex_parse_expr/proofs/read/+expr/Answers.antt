use Rattle.std.proofs.Common.{arith}
use Rattle.apex_parse_expr.proofs.Rooms.{expr_by, unary_by, query_by, bind_at}
use Rattle.apex_parse_expr.proofs.read.+expr.Goals as goal

pub expr_within-returns : goal.expr_within-returns
expr_within-returns t c = expr_by c.args.room c.expr_with.ensures

pub unary_within-returns : goal.unary_within-returns
unary_within-returns t c = unary_by c.args.room c.unary_with.ensures

pub deeper_query-returns : goal.deeper_query-returns
deeper_query-returns t c = query_by (omega arith) c.query_within.ensures

pub deeper_query-read-returns : goal.deeper_query-read-returns
deeper_query-read-returns t c = bind_at c.captures.most c.args.inside c.least.result c.least.ensures.least c.bind_within.ensures
