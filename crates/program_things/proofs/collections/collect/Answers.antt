use Rattle.std.proofs.Common.{Err, sym, subst}
use Rattle.program_things.specs.Collects.{Collects}
use Rattle.std.specs.Prelude.{IfOk}
use Rattle.program_things.proofs.collections.collect.Goals as goal

pub returns-in-Plain-clause-does : goal.returns-in-Plain-clause-does
returns-in-Plain-clause-does c = subst (λ v. Collects c.args.which v c.args.args.now c.args.c.now (Err c.raise.result) c.raise.new.c) (sym c.in-Plain.is) (λ go. c.raise.ensures)

pub returns-in-Object-clause-does : goal.returns-in-Object-clause-does
returns-in-Object-clause-does c =
    subst (λ v. IfOk c.collect_on.result (λ r. Collects c.args.which v c.args.args.now c.args.c.now r c.collect_on.new.c)) (sym c.in-Object.is) c.collect_on.ensures.does
