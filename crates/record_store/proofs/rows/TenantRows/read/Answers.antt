use Rattle.std.proofs.Common.{sym, ap, ◌∙◌}
use Rattle.std.specs.Prelude.{◌&&◌, eqb}
use Rattle.std.specs.Map.Iter.{deref_pair}
use Rattle.row_meaning.specs.Conds.{own_value}
use Rattle.record_store.proofs.Steps.{seen_row, seen_other, seen_none}
use Rattle.record_store.proofs.rows.TenantRows.read.Goals as goal

pub loop-slot-preserved-in_ok-push : goal.loop-slot-preserved-in_ok-push
loop-slot-preserved-in_ok-push c =
    let row = c.in-Some-slot.row in
    let says = ap (λ b. eqb row.object c.args.object && b) (sym (c.loop-slot.invariant.prepared (own_value row))) in
    record {
      seen = seen_row deref_pair c.args.object c.args.cond.now c.loop-slot.yielded (c.in-Some.field-0-0, c.in-Some.slot) row _ _ _ c.in-Some-slot.is (says ∙ sym c.in_ok-is_answer.ensures ∙ c.if-branch.true) c.in_ok-copy.ensures
          c.loop-slot.invariant.seen c.in_ok-push.ensures.ok;
      prepared = c.loop-slot.invariant.prepared;
    }

pub loop-slot-preserved-else-branch : goal.loop-slot-preserved-else-branch
loop-slot-preserved-else-branch c =
    let row = c.in-Some-slot.row in
    let says = ap (λ b. eqb row.object c.args.object && b) (sym (c.loop-slot.invariant.prepared (own_value row))) in
    record {
      seen = seen_other deref_pair c.args.object c.args.cond.now c.loop-slot.yielded (c.in-Some.field-0-0, c.in-Some.slot) row _ c.in-Some-slot.is (says ∙ sym c.in_ok-is_answer.ensures ∙ c.if-branch.false)
          c.loop-slot.invariant.seen;
      prepared = c.loop-slot.invariant.prepared;
    }

pub loop-slot-preserved : goal.loop-slot-preserved
loop-slot-preserved c = record {
  seen = seen_none deref_pair c.args.object c.args.cond.now c.loop-slot.yielded (c.in-Some.field-0-0, c.in-Some.slot) _ c.in_default.is c.loop-slot.invariant.seen;
  prepared = c.loop-slot.invariant.prepared;
}
