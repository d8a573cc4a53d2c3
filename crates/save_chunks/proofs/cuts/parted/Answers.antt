use Rattle.std.proofs.Common.{true, false, cond}
use Rattle.save_statements.specs.declared.statement.Placed.{Placed}
use Rattle.save_statements.specs.Statements.{has_id}
use Rattle.save_chunks.proofs.Cutting.{part_next}
use Rattle.save_chunks.proofs.cuts.parted.Goals as goal

pub loop-one-preserved : goal.loop-one-preserved
loop-one-preserved c = (
  part_next (λ (r : Placed). cond (has_id r.row.id) false true) c.loop-one.fresh _ c.in-Some.one _ c.next.new.self.rest.items _ c.in-Some.ensures.steps.0 c.loop-one.invariant.0 c.in_ok-add_part.ensures.fresh,
  part_next (λ (r : Placed). has_id r.row.id) c.loop-one.others _ c.in-Some.one _ c.next.new.self.rest.items _ c.in-Some.ensures.steps.0 c.loop-one.invariant.1 c.in_ok-add_part.ensures.others,
)
