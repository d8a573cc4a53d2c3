use Rattle.std.proofs.Common.{◌≡◌, ◌∷◌, ◌++◌, [], Some, ap, ◌∙◌}
use Rattle.turn_lock.proofs.Steps.{opens}
use Rattle.turn_lock.proofs.handles.TurnLock.open.Goals as goal

pub new-requires : goal.new-requires
new-requires g c =
    let same : c.of.result.value ≡ c.args.value = c.of.ensures in
    let items : c.push.new.self.items ≡ Some c.args.value ∷ [] = c.in_ok-push.ensures.items ∙ ap (λ l. l ++ Some c.args.value ∷ []) c.new-slots.ensures.items in
    rw (same, items) (opens _ _ _ _ _ c.requires.empty (g.met.T.Kept.same c.args.value))
