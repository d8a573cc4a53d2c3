use Rattle.std.proofs.Common.{sym, ap, ◌∙◌}
use Rattle.compile_unit.specs.Keys.{is_found, kept}
use Rattle.compile_unit.proofs.MethodSteps.{one_method_more}
use Rattle.compile_unit.proofs.tables.map_of.Goals as goal

pub loop-i-preserved : goal.loop-i-preserved
loop-i-preserved c = λ k.
    c.in_ok-note.ensures k ∙ ap (λ p. kept p (is_found k c.index-methods-i.result) c.loop-i.i) (c.loop-i.invariant k) ∙ sym (one_method_more c.args.methods.now c.loop-i.i c.index-methods-i.result k c.loop-i-test.true c.index-methods-i.is)
