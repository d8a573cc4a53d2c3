use Rattle.std.proofs.Common.{◌≡◌, ◌≤◌, ◌+◌, ◌++◌, drop}
use Rattle.reply_text.specs.Reports.{trail_text, unopened}
use Rattle.reply_text.proofs.reports.put_trail.Given as goal

abbrev pub invariant-events : goal.invariant-events
invariant-events l = (l.out.items ++ trail_text l.number l.opened.items (drop l.i l.trail) ≡ l.fn.out.items ++ trail_text 1 (unopened l.sessions) l.trail) × (l.number ≤ l.i + 1)
