use Rattle.std.proofs.Common.{take, sym, ap, ◌∙◌}
use Rattle.statement_walk.specs.Scenes.{scene}
use Rattle.statement_walk.specs.Statements.{statement, body}
use Rattle.statement_walk.proofs.Steps.{left_by, while_threads, for_threads, each_threads, try_gives}
use Rattle.type_names.specs.Walks.{Gives}
use Rattle.statement_walk.proofs.walk.+stmt.Goals as goal

pub scoped_body-returns : goal.scoped_body-returns
scoped_body-returns t c =
    left_by (body (scene c.args.view.now) c.args.tree.now c.args.in_loop c.args.scope.now) c.args.scope.now c.body-made.new.scope c.leave.new.self c.body-made.result c.body-made.ensures
    (c.leave.ensures ∙ ap (λ n. take n c.body-made.new.scope) c.len-len.ensures)

pub scoped-returns : goal.scoped-returns
scoped-returns t c =
    left_by (statement (scene c.args.view.now) c.args.tree.now c.args.in_loop c.args.scope.now) c.args.scope.now c.stmt-made.new.scope c.leave.new.self c.stmt-made.result c.stmt-made.ensures
    (c.leave.ensures ∙ ap (λ n. take n c.stmt-made.new.scope) c.len-len.ensures)

pub stmt-returns-in_ok-new-in-Try : goal.stmt-returns-in_ok-new-in-Try
stmt-returns-in_ok-new-in-Try t c =
    try_gives (scene c.args.view.now) c.args.tree.now c.in-Try.field-0 c.in-Try.tree c.in-Try.trees c.as_slice-in-Try.result.now c.in-Try.last c.args.in_loop c.args.scope.now c.scoped_body.new.scope c.catches.new.scope c.body_where.new.scope c.in_ok-stmts-in-Try.stmts c.in_ok-caught-in-Try.caught c.in_ok-last-in-Try.last c.in-Try.is c.as_slice-in-Try.ensures c.in_ok-stmts-in-Try.ensures c.in_ok-caught-in-Try.ensures c.in_ok-last-in-Try.ensures
    ∙ ap (λ made. Gives (made, c.body_where.new.scope)) (sym c.in_ok-new-in-Try.ensures)

pub stmt-returns-in-While : goal.stmt-returns-in-While
stmt-returns-in-While t c =
    while_threads (scene c.args.view.now) c.args.tree.now c.in-While.field-0 c.in-While.again c.get-in-While.result.now c.args.in_loop c.args.scope.now c.while_stmt.new.scope c.while_stmt.result
    c.in-While.test c.get-in-While-2.result.now c.in-While.is c.get-in-While-2.ensures c.get-in-While.ensures c.while_stmt.ensures

pub stmt-returns-in-For : goal.stmt-returns-in-For
stmt-returns-in-For t c =
    for_threads (scene c.args.view.now) c.args.tree.now c.in-For.field-0 c.in-For.again c.get-in-For.result.now c.args.in_loop c.args.scope.now c.for_stmt.new.scope c.for_stmt.result
    c.in-For.start c.in-For.test c.in-For.step c.in-For.is c.get-in-For.ensures c.for_stmt.ensures

pub stmt-returns-in-ForEach : goal.stmt-returns-in-ForEach
stmt-returns-in-ForEach t c =
    each_threads (scene c.args.view.now) c.args.tree.now c.in-ForEach.field-0 c.in-ForEach.again c.get-in-ForEach.result.now c.args.in_loop c.args.scope.now c.each_stmt.new.scope c.each_stmt.result
    c.in-ForEach.kind c.in-ForEach.name c.in-ForEach.list c.get-in-ForEach-2.result.now c.in-ForEach.is c.get-in-ForEach-2.ensures c.get-in-ForEach.ensures c.each_stmt.ensures
