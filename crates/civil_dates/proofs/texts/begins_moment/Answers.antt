use Rattle.std.proofs.Common.{arith, ◌≡◌, true, ◌∙◌}
use Rattle.civil_dates.proofs.TextSteps.{begins_not, moment_long}
use Rattle.civil_dates.proofs.texts.begins_moment.Goals as goal
use Rattle.civil_dates.proofs.texts.begins_moment.Goals.{then-text-lt20-via-then-text-lt20, then-text-lt20-via-else-text-lt20+then-text-ne84, then-text-lt20-via-else-text-lt20+else-text-ne84+then-text-ne90, then-text-lt20-via-else-text-lt20+else-text-ne84+else-text-ne90+then-not-begins_date}

pub returns-then-text-lt20 : goal.returns-then-text-lt20
returns-then-text-lt20 c = begins_not c.args.text.now (λ h. elim c.then-text-lt20.branch [
  | then-text-lt20-via-then-text-lt20 w ↦ let l = moment_long c.args.text.now h in let t = w.if-text-lt20.true in absurd (omega arith)
  | then-text-lt20-via-else-text-lt20+then-text-ne84 w ↦ absurd (w.if-text-ne84.true h.1.0)
  | then-text-lt20-via-else-text-lt20+else-text-ne84+then-text-ne90 w ↦ absurd (w.if-text-ne90.true h.1.1.1)
  | then-text-lt20-via-else-text-lt20+else-text-ne84+else-text-ne90+then-not-begins_date w ↦
      let e : w.begins_date.result ≡ true = w.begins_date.ensures ∙ h.0 in let f = w.if-not-begins_date.true in absurd (cc)
])
