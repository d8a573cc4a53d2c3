use Rattle.std.proofs.Common.{arith, rules, ◌∙◌}
use Rattle.save_chunks.proofs.Cutting.{cut_next}
use Rattle.save_chunks.proofs.cuts.cut_onto.Goals as goal

pub back-preserved : goal.back-preserved
back-preserved c =
    cut_next c.args.act c.back.rows.items c.split_off.new.self.items c.of.result c.len.result c.last_start.result c.back.chunks c.push.new.self _ (omega (arith, c.last_start.ensures.below)) (search rules)
    c.last_start.ensures.start c.in_ok-last.ensures.items (c.of.ensures ∙ c.in_ok-last.ensures.tail) c.back.invariant c.in_ok-push.ensures.ok
