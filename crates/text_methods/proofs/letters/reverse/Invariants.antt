use Rattle.std.proofs.Common.{◌≡◌, ◌++◌, length, reverse, string_bytes}
use denote.Text.{Utf8}
use denote.Shadow.{shadow}
use Rattle.std.specs.Str.{chars, encode_utf8_all}
use Rattle.text_methods.proofs.letters.reverse.Given as goal

abbrev pub invariant-loop-before : goal.invariant-loop-before
invariant-loop-before l = shadow (Utf8 l.rest) × (string_bytes l.out ++ encode_utf8_all (reverse (chars l.rest)) ≡ encode_utf8_all (reverse (chars l.text)))

abbrev pub decreases-loop-before : goal.decreases-loop-before
decreases-loop-before l = length l.rest
