use Rattle.std.proofs.Common.{sym, ap, ◌∙◌, ◌++◌, ◌∷◌, [], append_assoc}
use Rattle.tenant_shards.proofs.Left.{gathers}
use Rattle.tenant_shards.proofs.finish.gathered.Goals as goal

pub entries-preserved : goal.entries-preserved
entries-preserved c =
    let front = c.entries.invariant.2.0 in
    let e = c.in-Some.entry in (
      tt,
      tt,
      (
        front ++ e ∷ [],
        c.entries.invariant.2.1 ∙ ap (λ r. front ++ r) c.in-Some.ensures.steps.0 ∙ sym (append_assoc front (e ∷ []) c.next.new.self.rest.items),
        gathers c.entries.trails.entries c.add.new.trails.entries front e c.entries.invariant.2.2 c.in_ok-add.ensures.own c.in_ok-add.ensures.others,
      ),
    )
