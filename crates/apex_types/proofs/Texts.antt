-- Bytes that are text.
use Rattle.std.proofs.Common.{◌≡◌, ℕ, Bool, true, false, cond, List, [], refl, ap, sym}
use Rattle.std.specs.Str.{IsUtf8, is_utf8}
use Rattle.std.proofs.lemmas.Str.{IsUtf8-from_is_utf8, is_utf8-from_IsUtf8}
use Rattle.apex_types.specs.Written.{text_of}

pub told : (bs : List ℕ) → IsUtf8 bs → bs ≡ text_of bs
told bs h = sym (ap (λ b. cond b bs []) (is_utf8-from_IsUtf8 bs h))

pub none : (bs : List ℕ) → (IsUtf8 bs → ⊥) → [] ≡ text_of bs
none bs h = by (is_utf8 bs) refl
  where
    by : (b : Bool) → is_utf8 bs ≡ b → [] ≡ cond b bs []
    by true e = absurd (h (IsUtf8-from_is_utf8 bs e))
    by false e = refl
