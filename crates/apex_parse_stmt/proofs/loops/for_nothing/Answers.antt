use Rattle.apex_parse_stmt.proofs.Starts.{begun_by}
use Rattle.apex_parse_stmt.proofs.loops.for_nothing.Goals as goal

pub returns : goal.returns
returns c = begun_by c.args.room c.in_ok-start.ensures c.for_rest.ensures
