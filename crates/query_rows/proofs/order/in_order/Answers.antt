use Rattle.std.proofs.Common.{◌≡◌, rules, true, ap, ◌∙◌}
use Rattle.std.specs.List.{list_all}
use Rattle.std.proofs.lemmas.Result.{IfOk-weaker}
use Rattle.row_meaning.specs.Queries.{row_cmp, sorted}
use Rattle.query_rows.specs.declared.order.Keyed.{Keyed}
use Rattle.query_rows.specs.Orders.{fits, rows_of}
use Rattle.query_rows.specs.Read.{value_of}
use Rattle.query_rows.proofs.Keys.{sorted_fit, sorted_plain}
use Rattle.query_rows.proofs.order.in_order.Goals as goal

pub returns-then-not-all_fit : goal.returns-then-not-all_fit
returns-then-not-all_fit c =
    let value = value_of c.args.reader.now in
    IfOk-weaker c.without_keys.result _ _
    (λ v e.
    e ∙ ap rows_of c.in_ok-sort_mixed.ensures ∙ sorted_plain value c.args.keys.now c.in_ok-all.all.items c.in_ok-all.ensures.keyed ∙ ap (sorted (row_cmp value c.args.keys.now)) c.in_ok-all.ensures.rows)
    c.without_keys.ensures

pub returns : goal.returns
returns c =
    let value = value_of c.args.reader.now in
    let fit : list_all (λ (x : Keyed). fits c.in_ok-kinds.kinds.items x.cells) c.in_ok-all.all.items ≡ true = search rules in
    IfOk-weaker c.without_keys-2.result _ _
    (λ v e.
    e ∙ ap rows_of c.in_ok-sort.ensures ∙ sorted_fit value c.args.keys.now c.in_ok-kinds.kinds.items c.in_ok-all.all.items c.in_ok-all.ensures.keyed fit
    ∙ ap (sorted (row_cmp value c.args.keys.now)) c.in_ok-all.ensures.rows)
    c.without_keys-2.ensures
