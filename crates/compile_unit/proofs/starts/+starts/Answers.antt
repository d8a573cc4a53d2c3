use Rattle.std.proofs.Common.{◌≡◌, IfOk, subst}
use Rattle.stack_code.specs.Code.{starts_code}
use Rattle.compile_unit.proofs.StartSteps.{some_call}
use Rattle.compile_unit.proofs.starts.+starts.Goals as goal

pub starts_within-returns-in-Some : goal.starts_within-returns-in-Some
starts_within-returns-in-Some t c =
    subst (λ o. IfOk c.starts_by.result (λ s. s ≡ starts_code c.args.program.now o)) (some_call c.args.program.now c.args.most c.args.call c.in-Some.call c.if-most-eq0.false c.in-Some.is) c.starts_by.ensures
