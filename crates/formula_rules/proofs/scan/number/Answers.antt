use Rattle.std.proofs.Common.{List, ℕ, subst, sym}
use Rattle.std.specs.Str.{IsAscii}
use Rattle.formula_rules.proofs.Runs.{number_run_ascii}
use Rattle.formula_rules.proofs.scan.number.Goals as goal

pub number_of-requires : goal.number_of-requires
number_of-requires c = subst (λ (l : List ℕ). IsAscii l) (sym c.run_length-size.ensures.front) (number_run_ascii c.args.text.now)
