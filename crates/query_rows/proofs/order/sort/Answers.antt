use Rattle.std.proofs.Common.{rules, true}
use Rattle.std.proofs.lemmas.Fn.{always_returns_same}
use Rattle.std.proofs.lemmas.List.Sorted.{ranks_by}
use Rattle.std.proofs.lemmas.Result.{on_ok_weaker}
use Rattle.query_rows.specs.Orders.{keyed_order}
use Rattle.query_rows.proofs.Keys.{keyed_total}
use Rattle.query_rows.proofs.Sorts.{sorts, before}
use Rattle.query_rows.proofs.order.sort.Goals as goal

pub returns : goal.returns
returns c =
    let order = keyed_order true c.args.keys.now in
    let total = keyed_total c.args.keys.now in
    let ranks = ranks_by total (λ x. x) in
    on_ok_weaker c.sort_by.result
    (λ sorted.
    sorts order total c.args.rows.now.items c.sort_by.new.self.items
    (sorted (before order total) ranks (always_returns_same _ _ _ (λ a r f' k. search rules)))
    (c.sort_by.ensures.stable (before order total) ranks (always_returns_same _ _ _ (λ a r f' k. search rules))))
    c.sort_by.ensures.sorted
