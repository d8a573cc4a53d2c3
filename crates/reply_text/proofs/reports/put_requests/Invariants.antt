use Rattle.std.proofs.Common.{◌≡◌, ◌≤◌, ◌+◌, ◌++◌, drop, length}
use Rattle.reply_text.specs.Reports.{requests_text}
use Rattle.reply_text.proofs.reports.put_requests.Given as goal

abbrev pub invariant-requests : goal.invariant-requests
invariant-requests l = (l.out.items ++ requests_text l.number l.session l.i l.fault (drop l.i l.requests) ≡ l.fn.out.items ++ requests_text l.first l.session 0 l.fault l.requests) × (l.number ≡ l.first + l.i) × (l.number ≤ length l.out.items)
