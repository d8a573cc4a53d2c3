use Rattle.std.proofs.Common.{◌∙◌, arith}
use Rattle.query_records.proofs.Followed.{next_ways, all_ways}
use Rattle.query_records.proofs.ways.ways_of.Goals as goal

pub loop-path-preserved : goal.loop-path-preserved
loop-path-preserved c =
    next_ways c.args.paths.now c.loop-path.path-index c.path-item.result c.loop-path.ways c.add_path.new.ways c.as_slice.result.now (omega arith) c.path-item.is c.as_slice.ensures c.in_ok-add_path.ensures
    ∙ c.loop-path.invariant

pub returns : goal.returns
returns c = all_ways c.args.paths.now c.loop-path.path-index c.loop-path.ways (omega arith) c.loop-path.invariant
