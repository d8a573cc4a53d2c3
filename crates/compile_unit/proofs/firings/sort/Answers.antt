use Rattle.std.proofs.Common.{rules}
use Rattle.std.proofs.lemmas.Fn.{always_returns_same}
use Rattle.std.proofs.lemmas.List.Sorted.{ranks_by}
use Rattle.std.proofs.lemmas.Result.{on_ok_weaker}
use Rattle.query_rows.proofs.Sorts.{sorts, before}
use Rattle.compile_unit.specs.Ranks.{ranks_order}
use Rattle.compile_unit.proofs.Ranks.{ranks_total}
use Rattle.compile_unit.proofs.firings.sort.Goals as goal

pub returns : goal.returns
returns c =
    let ranks = ranks_by ranks_total (λ x. x) in
    on_ok_weaker c.sort_by.result
    (λ sorted.
    sorts ranks_order ranks_total c.args.triggers.now.items c.sort_by.new.self.items
    (sorted (before ranks_order ranks_total) ranks (always_returns_same _ _ _ (λ a r f' k. search rules)))
    (c.sort_by.ensures.stable (before ranks_order ranks_total) ranks (always_returns_same _ _ _ (λ a r f' k. search rules))))
    c.sort_by.ensures.sorted
