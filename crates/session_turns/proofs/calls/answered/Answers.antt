use Rattle.std.proofs.Common.{ap, sym, ◌∙◌}
use Rattle.apex_rows.specs.declared.query.Question.TheVariants.{Grab}
use Rattle.tenant_trails.specs.Runs.{Asks}
use Rattle.session_turns.proofs.calls.answered.Goals as goal

pub grabbed-requires-clause-may : goal.grabbed-requires-clause-may
grabbed-requires-clause-may c = record { log_is = c.requires.may.log_is; next = c.requires.may.next ∙ ap Asks c.in-Grab.is ∙ ap (λ ids. Asks (Grab ids)) (sym c.as_slice.ensures) }
