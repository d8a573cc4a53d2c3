use Rattle.std.proofs.Common.{ap, ◌∙◌}
use Rattle.row_meaning.specs.Overlays.{merged}
use Rattle.save_meaning.specs.Inserts.{rows_of_answer}
use Rattle.save_loading.proofs.Loads.{admits_all}
use Rattle.save_loading.proofs.access.admit_by.Goals as goal

pub returns : goal.returns
returns c =
    admits_all c.admit_all.result (record { schema = c.args.schema.now; ticket = c.args.ticket }) c.in_ok-viewer.viewer c.in_ok-shares.shares _ c.args.records c.in_ok-viewer.ensures
    (c.in_ok-shares.ensures ∙ ap (λ n. merged c.args.overlay.now n (rows_of_answer c.args.answer.now)) c.row_share.ensures) c.admit_all.ensures
