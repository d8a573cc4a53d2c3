use Rattle.std.proofs.Common.{ℕ, ◌<◌, refl}
use Rattle.std.proofs.lemmas.List.Elements.{All-more}
use Rattle.program_checks.proofs.Loops.{all_over}
use Rattle.program_checks.proofs.check.check_chain.Goals as goal

pub loop-class-preserved : goal.loop-class-preserved
loop-class-preserved c = All-more (λ (x : ℕ). x < c.args.classes) c.args.chain.now c.loop-class.class-index 0 c.loop-class-test.true c.loop-class.invariant c.if-class-classes.false

pub returns : goal.returns
returns c = (λ t. all_over (λ (x : ℕ). x < c.args.classes) c.args.chain.now c.loop-class.class-index c.loop-class-test.false c.loop-class.invariant, λ h. refl)
