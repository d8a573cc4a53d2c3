use Rattle.std.proofs.Common.{◌∙◌, ap, rules}
use Rattle.std.proofs.lemmas.List.Sorted.{answers_always}
use Rattle.heap_methods.specs.Order.{sorted, less}
use Rattle.heap_methods.proofs.Sorting.{weak, sort_is}
use Rattle.heap_methods.proofs.order.sorted.Goals as goal

pub returns : goal.returns
returns c =
    let same = c.into_vec-all.ensures ∙ c.in_ok-copy_list.ensures in
    let all = c.into_vec-all.result.items in
    let new = c.sort_unstable_by.new.self.items in
    let up = c.sort_unstable_by.ensures.sorted less weak (answers_always _ _ _ (λ f a r g h. search rules)) in
    c.of.ensures ∙ sort_is all new c.sort_unstable_by.ensures.permutation up ∙ ap sorted same
