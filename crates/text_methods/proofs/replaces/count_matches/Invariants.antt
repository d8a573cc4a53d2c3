use Rattle.std.proofs.Common.{◌≡◌, ◌+◌, ◌≤◌, length}
use denote.Text.{Utf8}
use denote.Shadow.{shadow}
use Rattle.std.specs.Str.{chars}
use Rattle.text_methods.specs.Texts.{matches}
use Rattle.text_methods.proofs.replaces.count_matches.Given as goal

abbrev pub invariant-loop-back : goal.invariant-loop-back
invariant-loop-back l =
    shadow (Utf8 l.rest) × (l.count + matches (chars l.of) (chars l.rest) ≡ matches (chars l.of) (chars l.text)) × (l.count + length (chars l.rest) ≤ length (chars l.text))

abbrev pub decreases-loop-back : goal.decreases-loop-back
decreases-loop-back l = length (chars l.rest)
