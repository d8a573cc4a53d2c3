use Rattle.language_laws.proofs.Ends.{charges_exact, counters_stay, halts_at_charges, lines_stay, nothing_written, replies_stay, rest_behind, tries_see_none}
use Rattle.language_laws.proofs.laws.laws_of_limits.Goals as goal

pub returns : goal.returns
returns c = record {
  within = counters_stay;
  replies = replies_stay;
  exact = charges_exact;
  halts = halts_at_charges;
  rest = rest_behind;
  tries = tries_see_none;
  lines = lines_stay;
  failed = nothing_written;
}
