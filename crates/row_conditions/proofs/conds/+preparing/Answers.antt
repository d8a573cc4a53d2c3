use Rattle.std.proofs.Common.{◌≡◌, ◌<◌, ◌≤◌, List, length, get_or, map, sym, ap, subst, ◌∙◌}
use Rattle.std.proofs.lemmas.List.{take_all}
use Rattle.apex_rows.specs.declared.query.Cond.{Cond}
use Rattle.row_meaning.specs.Conds.{holds}
use Rattle.row_conditions.specs.Prepared.{prepared_holds}
use Rattle.row_conditions.proofs.Folds.{is_all, is_any, is_not, each_more}
use Rattle.row_conditions.proofs.conds.+preparing.Goals as goal

pub prepare-returns-in_ok-prepare_each-in-All : goal.prepare-returns-in_ok-prepare_each-in-All
prepare-returns-in_ok-prepare_each-in-All t c = λ value.
    is_all value c.args.binds.now _ _ (c.in_ok-prepare_each-in-All.ensures value) ∙ ap (holds c.args.binds.now value) (sym c.in-All.is)

pub prepare-returns-in_ok-prepare_each-in-Any : goal.prepare-returns-in_ok-prepare_each-in-Any
prepare-returns-in_ok-prepare_each-in-Any t c = λ value.
    is_any value c.args.binds.now _ _ (c.in_ok-prepare_each-in-Any.ensures value) ∙ ap (holds c.args.binds.now value) (sym c.in-Any.is)

pub prepare-returns-in_ok-new-in-Not : goal.prepare-returns-in_ok-new-in-Not
prepare-returns-in_ok-new-in-Not t c = λ value.
    let inner = ap (prepared_holds value) c.in_ok-new-in-Not.ensures ∙ c.in_ok-inner-in-Not.ensures value ∙ ap (holds c.args.binds.now value) c.get.ensures in
    is_not value c.args.binds.now _ _ inner ∙ ap (holds c.args.binds.now value) (sym c.in-Not.is)

pub prepare_each-loop-cond-preserved : goal.prepare_each-loop-cond-preserved
prepare_each-loop-cond-preserved t c = λ value.
    let i = c.loop-cond.cond-index in
    let lt = subst (λ (cs : List Cond). i < length cs) c.as_slice-cond-items.ensures c.loop-cond-test.true in
    let is = subst (λ (cs : List Cond). c.cond-item.result ≡ get_or cs i c.cond-item.result) c.as_slice-cond-items.ensures c.cond-item.is in
    each_more (prepared_holds value) (holds c.args.binds.now value) c.loop-cond.all c.push.new.self c.in_ok-prepare.field-0 c.args.conds.now i c.cond-item.result lt is c.in_ok-push.ensures.ok (c.in_ok-prepare.ensures value)
    (c.loop-cond.invariant value)

pub prepare_each-returns : goal.prepare_each-returns
prepare_each-returns t c = λ value.
    let le = subst (λ (cs : List Cond). length cs ≤ c.loop-cond.cond-index) c.as_slice-cond-items.ensures c.loop-cond-test.false in
    c.loop-cond.invariant value ∙ ap (map (holds c.args.binds.now value)) (take_all c.loop-cond.cond-index c.args.conds.now le)
