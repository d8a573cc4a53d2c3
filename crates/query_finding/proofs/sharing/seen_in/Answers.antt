use Rattle.std.proofs.Common.{◌≡◌, List, ap, subst, ◌∙◌}
use Rattle.std.specs.Prelude.{filter, IfOk}
use Rattle.apex_rows.specs.declared.row.Row.{Row}
use Rattle.row_meaning.specs.Accesses.{access}
use Rattle.row_meaning.specs.Overlays.{merged}
use Rattle.row_meaning.specs.Queries.{is_visible}
use Rattle.save_meaning.specs.Inserts.{rows_of_answer}
use Rattle.query_finding.proofs.sharing.seen_in.Goals as goal

pub returns : goal.returns
returns c =
    subst (λ (x : List Row). IfOk c.seen.result (λ rs. rs ≡ filter (λ (r : Row). is_visible (access c.args.schema.now c.args.user r x)) c.args.rows))
    (c.in_ok-shares.ensures ∙ ap (λ n. merged c.args.overlay.now n (rows_of_answer c.args.answer.now)) c.row_share.ensures) c.seen.ensures
