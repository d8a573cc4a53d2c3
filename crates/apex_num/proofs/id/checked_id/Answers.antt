use Rattle.std.proofs.Common.{ap, sym, ◌∙◌}
use Rattle.apex_num.specs.Ids.{checks}
use Rattle.apex_num.proofs.Checks.{parts_of_long}
use Rattle.apex_num.proofs.id.checked_id.Goals as goal

pub returns-else-has_checks : goal.returns-else-has_checks
returns-else-has_checks c = λ id h e.
    let parts = parts_of_long c.args.text.now c.split_at.result.0.now c.split_at.result.1.now id c.split_at.ensures.front c.split_at.ensures.back h e in
    c.if-has_checks.ensures (parts.1 ∙ ap checks (sym parts.0 ∙ sym c.in-Some.ensures.0))
