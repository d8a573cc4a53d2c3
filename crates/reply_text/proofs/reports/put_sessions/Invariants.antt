use Rattle.std.proofs.Common.{◌≡◌, ◌≤◌, ◌++◌, drop, length}
use Rattle.reply_text.specs.Reports.{sessions_text}
use Rattle.reply_text.proofs.reports.put_sessions.Given as goal

abbrev pub invariant-sessions : goal.invariant-sessions
invariant-sessions l = (l.out.items ++ sessions_text l.number l.s l.fault (drop l.s l.sessions) ≡ l.fn.out.items ++ sessions_text 1 0 l.fault l.sessions) × (l.number ≤ length l.out.items)
