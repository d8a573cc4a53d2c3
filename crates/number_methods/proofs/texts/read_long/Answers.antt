use Rattle.std.proofs.Common.{rules, w64}
use Rattle.std.specs.Prelude.{FitsSigned}
use Rattle.number_methods.specs.Values.{long_fits}
use Rattle.number_methods.proofs.Read.{read_answer, long_decide}
use Rattle.number_methods.proofs.texts.read_long.Goals as goal

pub returns-clause-value : goal.returns-clause-value
returns-clause-value c = read_answer c.args.text.now c.ok.result long_fits (FitsSigned w64) long_decide (search rules) (search rules)
