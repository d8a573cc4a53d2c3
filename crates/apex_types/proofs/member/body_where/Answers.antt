use Rattle.std.proofs.Common.{rules, ◌≡◌, Err}
use Rattle.apex_types.specs.Homes.{home}
use Rattle.apex_types.proofs.MethodBodies.{body_gives, body_fails}
use Rattle.name_meanings.specs.Settings.{around}
use Rattle.apex_types.proofs.member.body_where.Goals as goal

pub returns-in_err-stmts-in-Some : goal.returns-in_err-stmts-in-Some
returns-in_err-stmts-in-Some c =
    let e : c.from_residual.result ≡ Err c.in_err-stmts-in-Some.field-0.0 = search rules in
    rw e (body_fails (home c.args.home.now) c.args.class c.args.method.now c.args.locals c.in-Some.tree c.args.at (around c.setting-setting.result) c.setting-setting.ensures c.args.tree.now c.in-Some.is c.in_err-stmts-in-Some.field-0.0 c.in_err-stmts-in-Some.ensures)

pub returns-in_ok-stmts-in-Some : goal.returns-in_ok-stmts-in-Some
returns-in_ok-stmts-in-Some c =
    body_gives (home c.args.home.now) c.args.class c.args.method.now c.args.locals c.in-Some.tree c.args.at (around c.setting-setting.result) c.setting-setting.ensures c.args.tree.now c.in-Some.is c.in_ok-stmts-in-Some.stmts c.in_ok-stmts-in-Some.ensures
