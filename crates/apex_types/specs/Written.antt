-- Names as they are written (docs/language.md, "Units").
use Rattle.std.specs.Prelude.{ℕ, cond, List, []}
use Rattle.std.specs.Str.{is_utf8}

-- the bytes of a name are text
abbrev pub text_of : List ℕ → List ℕ
text_of bytes = cond (is_utf8 bytes) bytes []
