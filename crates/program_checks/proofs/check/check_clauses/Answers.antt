use Rattle.std.proofs.Common.{◌<◌, refl}
use Rattle.std.proofs.lemmas.List.Elements.{All-more}
use Rattle.stack_code.specs.declared.image.Clause.{Clause}
use Rattle.program_checks.proofs.Loops.{all_over}
use Rattle.program_checks.proofs.check.check_clauses.Goals as goal

pub loop-clause-preserved : goal.loop-clause-preserved
loop-clause-preserved c = All-more (λ (x : Clause). x.target < c.args.left) c.args.clauses.now c.loop-clause.clause-index _ c.loop-clause-test.true c.loop-clause.invariant c.if-clause-left.false

pub returns : goal.returns
returns c = (λ t. all_over (λ (x : Clause). x.target < c.args.left) c.args.clauses.now c.loop-clause.clause-index c.loop-clause-test.false c.loop-clause.invariant, λ h. refl)
