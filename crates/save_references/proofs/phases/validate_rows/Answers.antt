use Rattle.apex_requests.specs.declared.request.Ticket.{Ticket}
use Rattle.save_statements.specs.Checks.{validate_rows}
use Rattle.save_references.proofs.Phasing.{replays_all}
use Rattle.save_references.proofs.phases.validate_rows.Goals as goal

pub returns : goal.returns
returns c =
    replays_all c.validate_left.result (λ (ticket : Ticket). validate_rows (record { schema = c.args.schema.now; ticket = ticket }) c.args.overlay.now c.args.number c.args.object.now c.args.records.now) c.new-left.result c.args.answers.now c.validate_left.new.answers
    c.args.records.now c.validate_left.new.records c.new-left.ensures c.validate_left.ensures
