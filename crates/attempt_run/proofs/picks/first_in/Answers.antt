use Rattle.std.proofs.Common.{Some, sym, ap, ◌∙◌}
use Rattle.attempt_run.specs.Picks.{unfinished_in, unfinished_of}
use Rattle.attempt_run.proofs.picks.first_in.Goals as goal

pub first_of-requires : goal.first_of-requires
first_of-requires c = λ s lt.
    ap (λ qs. unfinished_of qs c.args.standings.now s) c.as_slice.ensures ∙ sym (ap (λ p. unfinished_in (Some p) (Some c.args.standings.now) s) c.in-Some.is) ∙ c.requires s lt
