use Rattle.apex_parse_stmt.proofs.Rooms.{stmt_by}
use Rattle.apex_parse_stmt.proofs.read.+stmt.Goals as goal

pub stmt_within-returns : goal.stmt_within-returns
stmt_within-returns t c = stmt_by c.args.room c.stmt_with.ensures
