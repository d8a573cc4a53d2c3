use Rattle.std.proofs.Common.{List, subst}
use Rattle.store_inquiries.specs.Inquiries.{Inquiry}
use Rattle.save_statements.specs.declared.pending.Record.{Record}
use Rattle.save_statements.specs.Loading.{load}
use Rattle.save_statements.specs.Statements.{unplaced}
use Rattle.answer_replay.specs.Playing.{Plays}
use Rattle.save_loading.proofs.loading.load.Goals as goal

pub returns : goal.returns
returns c =
    let i : Inquiry (List Record) = load (record { schema = c.args.schema.now; ticket = c.args.ticket }) c.args.overlay.now c.args.act c.args.by c.args.number c.args.object.now (unplaced c.args.rows.now) in
    c.replayed.ensures i c.args.answers.now c.play.new.answers (subst (λ b. Plays i b c.in_ok-comes.comes c.play.new.answers) c.new-left.ensures c.in_ok-comes.ensures)
