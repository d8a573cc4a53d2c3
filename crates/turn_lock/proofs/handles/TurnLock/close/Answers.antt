use Rattle.std.proofs.Common.{sym, ap, subst, ◌∙◌}
use Rattle.turn_lock.proofs.Lists.{some_is}
use Rattle.turn_lock.proofs.Steps.{closed}
use Rattle.turn_lock.proofs.handles.TurnLock.close.Goals as goal

pub unreachable-requires : goal.unreachable-requires
unreachable-requires g c =
    let end = closed _ _ _ _ _ _ _ _ _ c.close_with-closed.ensures.values.2 c.requires.own.2 c.requires.all c.take-slot.result c.take-slot.ensures.value in
    c.in_default.not-Some end.0 end.1

pub returns-clause-entries : goal.returns-clause-entries
returns-clause-entries g c =
    let end = closed _ _ _ _ _ _ _ _ _ c.close_with-closed.ensures.values.2 c.requires.own.2 c.requires.all c.take-slot.result c.take-slot.ensures.value in
    ap g.T.Kept.entries (some_is _ _ (sym c.in-Some.is ∙ end.1)) ∙ end.2

pub returns-clause-basis : goal.returns-clause-basis
returns-clause-basis g c =
    let end = closed _ _ _ _ _ _ _ _ _ c.close_with-closed.ensures.values.2 c.requires.own.2 c.requires.all c.take-slot.result c.take-slot.ensures.value in
    subst (g.T.Kept.has_same_basis c.args.self.table.shared.key.opened.value) (sym (some_is _ _ (sym c.in-Some.is ∙ end.1))) end.3
