use Rattle.std.proofs.Common.{sym, ◌∙◌}
use Rattle.attempt_run.specs.Picks.{unfinished_of}
use Rattle.attempt_run.proofs.Cursors.{none_at_all, none_next}
use Rattle.attempt_run.proofs.picks.first_of.Goals as goal

pub returns-then-is_unfinished : goal.returns-then-is_unfinished
returns-then-is_unfinished c = (c.sessions.invariant, sym c.is_unfinished.ensures ∙ c.if-is_unfinished.true)

pub sessions-preserved : goal.sessions-preserved
sessions-preserved c = none_next (unfinished_of c.args.sessions.now c.args.standings.now) c.sessions.s c.sessions.invariant (sym c.is_unfinished.ensures ∙ c.if-is_unfinished.false)

pub returns : goal.returns
returns c = none_at_all c.args.sessions.now c.args.standings.now c.sessions.s c.sessions.invariant c.sessions-test.false
