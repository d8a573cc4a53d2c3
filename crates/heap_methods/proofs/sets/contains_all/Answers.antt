use Rattle.std.proofs.Common.{◌∙◌, ap, sym}
use Rattle.std.specs.List.{list_all}
use Rattle.std.specs.Option.{option_copied}
use Rattle.txn_heap.specs.Words.{has}
use Rattle.heap_methods.specs.Operands.{truth}
use Rattle.heap_methods.specs.Outcomes.{Tells}
use Rattle.heap_methods.specs.Sets.{contains_all}
use Rattle.heap_methods.proofs.sets.contains_all.Goals as goal

pub returns-in-Some : goal.returns-in-Some
returns-in-Some c =
    let ks = c.args.keys.now in
    ap (λ o. contains_all ks (option_copied o)) c.in-Some.is
    ∙ ap Tells (sym (c.truth.ensures ∙ ap truth (c.all.ensures ∙ ap (list_all (λ k. has k ks)) c.as_slice.ensures.elements)))
