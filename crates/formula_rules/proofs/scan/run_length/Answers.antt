use Rattle.std.proofs.Common.{◌≤◌, take, drop, length, subst, sym, ap, ◌∙◌}
use Rattle.formula_rules.specs.Readings.{test_of}
use Rattle.formula_rules.proofs.Runs.{take_run, drop_run, run_short}
use Rattle.formula_rules.proofs.scan.run_length.Goals as goal

pub returns : goal.returns
returns c =
    let is = test_of c.args.run in let text = c.args.text.now in record {
      front = ap (λ n. take n text) c.count.ensures ∙ take_run is text;
      rest = ap (λ n. drop n text) c.count.ensures ∙ drop_run is text;
      within = subst (λ n. n ≤ length text) (sym c.count.ensures) (run_short is text);
    }
