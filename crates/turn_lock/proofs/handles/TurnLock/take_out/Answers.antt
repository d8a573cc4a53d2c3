use Rattle.std.proofs.Common.{rules, ◌∷◌, Some, sym, ap, ◌∙◌}
use Rattle.atomic_table.specs.Table.{rest}
use Rattle.turn_lock.proofs.handles.TurnLock.take_out.Goals as goal

pub exchange-requires : goal.exchange-requires
exchange-requires g c =
    let t = c.requires.held in
    (search rules, (Some t.0, t.1 ∙ ap (λ r. (0, Some t.0) ∷ r) (sym (ap rest t.1))))
