use Rattle.std.proofs.Common.{arith, ◌≡◌, ap, sym, subst, ◌∙◌, replicate}
use Rattle.session_states.specs.States.{AllSince, fresh, sessions_of}
use Rattle.session_states.proofs.Seen.{fresh_seen, fresh_since}
use Rattle.session_states.proofs.sessions.Sessions.new.Goals as goal

pub invariant_of-result : goal.invariant_of-result
invariant_of-result c = subst (AllSince 0) (sym c.loop.invariant) (fresh_since 0 c.loop.counter)

pub returns : goal.returns
returns c =
    let most = c.loop.auto.counter-end in
    let least = c.loop-test.false in
    let n : c.loop.counter ≡ c.args.sessions = omega arith in
    ap (sessions_of 0) c.loop.invariant ∙ fresh_seen 0 c.loop.counter ∙ ap (λ k. replicate k fresh) n
