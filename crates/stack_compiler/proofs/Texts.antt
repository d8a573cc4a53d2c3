-- Bytes that are texts, and those that aren't.
use Rattle.std.proofs.Common.{◌≡◌, ℕ, Bool, true, false, List, refl, sym, ap, ◌∙◌, subst, Option, None, Some}
use Rattle.std.specs.Prelude.{cond, IfSome, IfNone}
use Rattle.std.specs.Str.{IsUtf8, is_utf8}
use Rattle.std.proofs.lemmas.Str.{is_utf8-from_IsUtf8, IsUtf8-from_is_utf8}
use Rattle.apex_num.specs.declared.cell.Cell.TheVariants as C

pub text_there : (t copied bytes : List ℕ) → t ≡ copied → IsUtf8 copied → copied ≡ bytes → Some (C.Text t) ≡ cond (is_utf8 bytes) (Some (C.Text bytes)) None
text_there t copied bytes e u c =
    ap (λ b. Some (C.Text b)) (e ∙ c) ∙ ap (λ (b : Bool). cond b (Some (C.Text bytes)) None) (sym (is_utf8-from_IsUtf8 copied u) ∙ ap is_utf8 c)

pub text_lacking : (copied bytes : List ℕ) → (IsUtf8 copied → ⊥) → copied ≡ bytes → None ≡ cond (is_utf8 bytes) (Some (C.Text bytes)) None
text_lacking copied bytes n c = by (is_utf8 copied) refl ∙ ap (λ xs. cond (is_utf8 xs) (Some (C.Text bytes)) None) c where
  by : (b : Bool) → is_utf8 copied ≡ b → None ≡ cond (is_utf8 copied) (Some (C.Text bytes)) None
  by true e = absurd (n (IsUtf8-from_is_utf8 copied e))
  by false e = ap (λ (b : Bool). cond b (Some (C.Text bytes)) None) (sym e)

pub if_some : {T : Type 0} (o : Option T) (x : T) (P : T → Type 0) → o ≡ Some x → IfSome o P → P x
if_some o x P e h = subst (λ y. IfSome y P) e h

pub if_none : {T : Type 0} (o : Option T) (P : Type 0) → o ≡ None → IfNone o P → P
if_none o P e h = subst (λ y. IfNone y P) e h
