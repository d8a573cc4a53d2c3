use Rattle.std.proofs.Common.{◌≡◌, ◌++◌, length, string_bytes}
use denote.Text.{Utf8}
use denote.Shadow.{shadow}
use Rattle.std.specs.Str.{chars, encode_utf8_all}
use Rattle.text_methods.specs.Texts.{replace}
use Rattle.text_methods.proofs.replaces.replace.Given as goal

abbrev pub invariant-loop-front : goal.invariant-loop-front
invariant-loop-front l =
    shadow (Utf8 l.rest) × (string_bytes l.out ++ encode_utf8_all (replace (chars l.of) (chars l.with) (chars l.rest)) ≡ encode_utf8_all (replace (chars l.of) (chars l.with) (chars l.text)))

abbrev pub decreases-loop-front : goal.decreases-loop-front
decreases-loop-front l = length (chars l.rest)
