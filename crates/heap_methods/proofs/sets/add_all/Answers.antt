use Rattle.std.proofs.Common.{◌∙◌, ap, sym, not}
use Rattle.std.specs.List.{list_any}
use Rattle.txn_heap.specs.declared.thing.Thing.TheVariants as T
use Rattle.txn_heap.specs.Words.{has, with_keys}
use Rattle.heap_methods.specs.Operands.{truth}
use Rattle.heap_methods.specs.Outcomes.{Becomes}
use Rattle.heap_methods.specs.Sets.{add_all}
use Rattle.heap_methods.proofs.sets.add_all.Goals as goal

pub returns-in-Some : goal.returns-in-Some
returns-in-Some c =
    let ks = c.args.keys.now in
    ap (add_all ks) c.in-Some.is
    ∙ ap (Becomes (T.Set (with_keys ks c.in-Some.more))) (sym (c.truth.ensures ∙ ap truth (c.any-new.ensures ∙ ap (list_any (λ k. not (has k ks))) c.as_slice.ensures)))
