use Rattle.std.proofs.Common.{◌+◌, ◌*◌}
use Rattle.apex_parse_expr.proofs.read.+expr.Given as goal

abbrev pub decreases-deeper_expr : goal.decreases-deeper_expr
decreases-deeper_expr l = 8 * l.room

abbrev pub decreases-deeper_unary : goal.decreases-deeper_unary
decreases-deeper_unary l = 8 * l.room

abbrev pub decreases-deeper_query : goal.decreases-deeper_query
decreases-deeper_query l = 8 * l.room

abbrev pub decreases-bind_within-argument : goal.decreases-bind_within-argument
decreases-bind_within-argument l = 8 * l.room + 1

abbrev pub decreases-bind_within : goal.decreases-bind_within
decreases-bind_within l = 8 * l.room + 2

abbrev pub decreases-deeper_query-read : goal.decreases-deeper_query-read
decreases-deeper_query-read l = 8 * l.most + 3

abbrev pub decreases-unary_within-expr : goal.decreases-unary_within-expr
decreases-unary_within-expr l = 8 * l.room + 1

abbrev pub decreases-unary_within-query : goal.decreases-unary_within-query
decreases-unary_within-query l = 8 * l.room + 1

abbrev pub decreases-unary_within-unary : goal.decreases-unary_within-unary
decreases-unary_within-unary l = 8 * l.room + 1

abbrev pub decreases-unary_within : goal.decreases-unary_within
decreases-unary_within l = 8 * l.room + 2

abbrev pub decreases-expr_within-inner : goal.decreases-expr_within-inner
decreases-expr_within-inner l = 8 * l.room + 1

abbrev pub decreases-expr_within-operand : goal.decreases-expr_within-operand
decreases-expr_within-operand l = 8 * l.room + 3

abbrev pub decreases-expr_within : goal.decreases-expr_within
decreases-expr_within l = 8 * l.room + 4
