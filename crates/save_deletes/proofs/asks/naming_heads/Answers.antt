use Rattle.std.proofs.Common.{[], ap, ◌∙◌}
use Rattle.std.proofs.lemmas.Result.{IfOk-weaker}
use Rattle.row_meaning.specs.Stores.{of_object}
use Rattle.save_meaning.specs.Drafts.{with_ids}
use Rattle.save_meaning.specs.Inserts.{ids_of}
use Rattle.save_deletes.specs.Heads.{or_no_ids}
use Rattle.save_deletes.proofs.Down.{by_none, by_these}
use Rattle.save_deletes.proofs.asks.naming_heads.Goals as goal

pub returns-in-Some : goal.returns-in-Some
returns-in-Some c =
    IfOk-weaker c.naming.result _ _
    (λ comes h rows heads.
    by_these c.args.overlay.now c.args.field (with_ids (ids_of (of_object c.args.field.to rows)) []) c.args.answers.now c.in-Some.ids.now comes c.naming.new.answers
    (ap or_no_ids c.in-Some.ensures.value ∙ heads c.args.field.to) h) c.naming.ensures

pub returns-in-None : goal.returns-in-None
returns-in-None c = λ rows heads.
    by_none c.args.overlay.now c.args.field (with_ids (ids_of (of_object c.args.field.to rows)) []) c.args.answers.now c.new.result (ap or_no_ids c.in-None.ensures.value ∙ heads c.args.field.to) c.new.ensures
