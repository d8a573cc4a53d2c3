use Rattle.apex_requests.specs.declared.request.Ticket.{Ticket}
use Rattle.save_statements.specs.Checks.{refer_rows}
use Rattle.save_references.proofs.Phasing.{replays_all}
use Rattle.save_references.proofs.phases.refer_rows.Goals as goal

pub returns : goal.returns
returns c =
    replays_all c.refer_left.result (λ (ticket : Ticket). refer_rows (record { schema = c.args.schema.now; ticket = ticket }) c.args.overlay.now c.args.object.now c.args.records.now) c.new-left.result c.args.answers.now c.refer_left.new.answers
    c.args.records.now c.refer_left.new.records c.new-left.ensures c.refer_left.ensures
