use Rattle.std.proofs.Common.{rules, w32}
use Rattle.std.specs.Prelude.{FitsSigned}
use Rattle.number_methods.specs.Values.{integer_fits}
use Rattle.number_methods.proofs.Read.{read_answer, integer_decide}
use Rattle.number_methods.proofs.texts.read_integer.Goals as goal

pub returns-clause-value : goal.returns-clause-value
returns-clause-value c = read_answer c.args.text.now c.ok.result integer_fits (FitsSigned w32) integer_decide (search rules) (search rules)
