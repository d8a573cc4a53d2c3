use Rattle.std.proofs.Common.{◌≡◌, ◌++◌, drop}
use Rattle.reply_text.specs.Reports.{report}
use Rattle.reply_text.proofs.reports.report.Given as goal

abbrev pub invariant-tenants : goal.invariant-tenants
invariant-tenants l = l.out.items ++ report (drop l.t l.tenants) (drop l.t l.faults) (drop l.t l.trails) ≡ report l.tenants l.faults l.trails
