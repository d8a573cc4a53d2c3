-- Letter case (docs/formats.md, "Tokens"): only ASCII letters fold.
use Rattle.std.specs.Prelude.{ℕ, List, map}
use Rattle.std.specs.Char.{to_ascii_lowercase}

-- the text with each ASCII capital as the small letter
abbrev pub folded : List ℕ → List ℕ
folded text = map to_ascii_lowercase text
