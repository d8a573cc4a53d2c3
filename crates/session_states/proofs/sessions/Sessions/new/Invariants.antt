use Rattle.std.proofs.Common.{◌≡◌, replicate, None}
use Rattle.session_states.proofs.sessions.Sessions.new.Given as goal

abbrev pub invariant-loop : goal.invariant-loop
invariant-loop l = l.all.items ≡ replicate l.counter (record { closed = 0; running = None })
