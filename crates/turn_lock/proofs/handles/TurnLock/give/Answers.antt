use Rattle.std.proofs.Common.{rules, ap, ◌*◌, arith}
use Rattle.turn_lock.specs.Passes.{began_with}
use Rattle.turn_lock.proofs.Steps.{releases_at}
use Rattle.turn_lock.proofs.handles.TurnLock.give.Goals as goal

pub swap-requires : goal.swap-requires
swap-requires g c =
    let value = c.args.held.value in
    let short = c.count-count.ensures.short in
    let count = c.count-count.ensures.count in
    (search rules, search rules, releases_at _ _ _ _ _ _ _ _ _ c.args.held.seat.me.0 value (began_with c.args.held) (ap (λ n. 2 * n) count) c.put_back.ensures.full c.requires.own.2 c.requires.own.3 c.requires.basis (omega arith) c.requires.grown c.requires.by)
