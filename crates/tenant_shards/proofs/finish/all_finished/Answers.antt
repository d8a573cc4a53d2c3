use Rattle.std.proofs.Common.{refl, sym, ap, ◌∙◌, get_or}
use Rattle.tenant_shards.specs.Finishes.{trail_at}
use Rattle.tenant_shards.proofs.Left.{default_same, never_gone, next_stands, still, still_trail}
use Rattle.tenant_shards.proofs.finish.all_finished.Goals as goal
use Rattle.tenant_shards.proofs.finish.all_finished.Goals.{in-Some+in_ok-push, in_default}

pub order-preserved : goal.order-preserved
order-preserved c =
    let first = c.args.tenants.entries in
    let trails = c.args.trails.entries in
    let now = c.order.tenants.entries in
    let left = c.order.trails.entries in
    let ns = c.args.order.now in
    let n = get_or ns c.order.i 0 in
    let here = default_same ns c.order.i 0 n c.order-test.true in
    elim c.match-remove.branch [
      | in-Some+in_ok-push w ↦
          next_stands first now c.remove.new.self.entries trails left c.match-remove.trails.entries ns c.order.i n c.order.all c.requires.differ c.order-test.true here c.order.invariant c.remove.ensures.updates.2
          (λ q other. ap (λ t. trail_at q t.entries) w.trails-is ∙ w.take_out-trail.ensures.others q other) c.match-remove.all _
          (record {
            kept = w.in-Some.field-0;
            is_kept = sym (still first now c.remove.new.self.entries trails left c.match-remove.trails.entries ns c.order.i n c.order.all c.requires.differ c.order-test.true here c.order.invariant) ∙ sym w.in-Some.ensures.value;
            number = refl;
            part = refl;
            trail = w.take_out-trail.ensures.own ∙ still_trail first now c.remove.new.self.entries trails left c.match-remove.trails.entries ns c.order.i n c.order.all c.requires.differ c.order-test.true here c.order.invariant;
          }) (w.all-is ∙ w.in_ok-push.ensures.ok)
      | in_default w ↦ absurd (never_gone first now c.remove.new.self.entries trails left c.match-remove.trails.entries ns c.order.i n c.order.all c.requires.differ c.order-test.true here c.order.invariant c.requires.kept (sym c.remove.ensures.value ∙ w.in_default.is))
    ]
