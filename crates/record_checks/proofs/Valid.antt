-- Rules that are looked at one by one.
use Rattle.std.proofs.Common.{◌≡◌, ℕ, zero, suc, ◌+◌, ◌<◌, ◌≤◌, true, false, List, [], ◌∷◌, length, drop, get_or, refl, sym, ap, ◌∙◌, add-one, arith, None, Some, Option}
use Rattle.std.specs.Prelude.{slice_get}
use Rattle.platform_errors.specs.declared.record.RecordError.{RecordError}
use Rattle.platform_errors.specs.declared.record.RecordError.TheVariants as Error
use Rattle.apex_schema.specs.declared.rule.Rule.{Rule}
use Rattle.apex_schema.specs.declared.schema.RuleHead.{RuleHead}
use Rattle.row_meaning.specs.Rules.{rule_value}
use Rattle.save_meaning.specs.Drafts.{or_later, when}
use Rattle.save_statements.specs.declared.pending.Pending.{Pending}
use Rattle.save_statements.specs.Checks.{broken}

module _ (p : Pending) where
  -- rules from number i on, with a head or with none
  broken_at : (i : ℕ) (rs : List Rule) (hs : List RuleHead) (r : Rule) (h : RuleHead) → i < length rs → r ≡ get_or rs i r → slice_get hs i ≡ Some h →
      broken (drop i rs) (drop i hs) p ≡ or_later (when (rule_value p.row p.old r) (Error.Custom h.message)) (broken (drop (suc i) rs) (drop (suc i) hs) p)
  broken_at i [] hs r h lt e g = absurd (omega arith)
  broken_at zero (q ∷ rs) [] r h lt e g = cc
  broken_at zero (q ∷ rs) (k ∷ hs) r h lt e g =
      let s : k ≡ h = cc in
      ap (λ (x : Rule). or_later (when (rule_value p.row p.old x) (Error.Custom k.message)) (broken rs hs p)) (sym e) ∙ ap (λ (x : RuleHead). or_later (when (rule_value p.row p.old r) (Error.Custom x.message)) (broken rs hs p)) s
  broken_at (suc i) (q ∷ rs) [] r h lt e g = cc
  broken_at (suc i) (q ∷ rs) (k ∷ hs) r h lt e g = broken_at i rs hs r h (omega arith) e g

  pub broken_on : (i : ℕ) (rs : List Rule) (hs : List RuleHead) (r : Rule) (h : RuleHead) (whole : Option RecordError) → i < length rs → r ≡ get_or rs i r → slice_get hs i ≡ Some h →
      broken (drop i rs) (drop i hs) p ≡ whole → rule_value p.row p.old r ≡ false → broken (drop (i + 1) rs) (drop (i + 1) hs) p ≡ whole
  broken_on i rs hs r h whole lt e g w t =
      ap (λ n. broken (drop n rs) (drop n hs) p) (add-one i) ∙ sym (ap (λ b. or_later (when b (Error.Custom h.message)) (broken (drop (suc i) rs) (drop (suc i) hs) p)) t) ∙ sym (broken_at i rs hs r h lt e g) ∙ w

  pub broken_here : (i : ℕ) (rs : List Rule) (hs : List RuleHead) (r : Rule) (h : RuleHead) (whole : Option RecordError) → i < length rs → r ≡ get_or rs i r → slice_get hs i ≡ Some h →
      broken (drop i rs) (drop i hs) p ≡ whole → rule_value p.row p.old r ≡ true → Some (Error.Custom h.message) ≡ whole
  broken_here i rs hs r h whole lt e g w t =
      sym (ap (λ b. or_later (when b (Error.Custom h.message)) (broken (drop (suc i) rs) (drop (suc i) hs) p)) t) ∙ sym (broken_at i rs hs r h lt e g) ∙ w

  pub headless : (i : ℕ) (rs : List Rule) (hs : List RuleHead) (whole : Option RecordError) → slice_get hs i ≡ None → broken (drop i rs) (drop i hs) p ≡ whole → None ≡ whole
  headless i [] [] whole g w = none i w where
    none : (n : ℕ) → broken (drop n []) (drop n []) p ≡ whole → None ≡ whole
    none zero h = h
    none (suc n) h = h
  headless zero [] (h ∷ hs) whole g w = w
  headless (suc i) [] (h ∷ hs) whole g w = w
  headless zero (r ∷ rs) [] whole g w = w
  headless (suc i) (r ∷ rs) [] whole g w = none i rs w where
    none : (n : ℕ) (qs : List Rule) → broken (drop n qs) [] p ≡ whole → None ≡ whole
    none zero [] h = h
    none zero (q ∷ qs) h = h
    none (suc n) [] h = h
    none (suc n) (q ∷ qs) h = none n qs h
  headless zero (r ∷ rs) (h ∷ hs) whole g w = cc
  headless (suc i) (r ∷ rs) (h ∷ hs) whole g w = headless i rs hs whole g w

-- what stands at a place
pub got : {A : Type 0} (i : ℕ) (xs : List A) (x : A) → i < length xs → x ≡ get_or xs i x → slice_get xs i ≡ Some x
got i [] x lt e = absurd (omega arith)
got zero (y ∷ xs) x lt e = ap (λ z. Some z) (sym e)
got (suc i) (y ∷ xs) x lt e = got i xs x (omega arith) e

pub nothing_there : {A : Type 0} (i : ℕ) (xs : List A) → length xs ≤ i → slice_get xs i ≡ None
nothing_there i [] le = refl
nothing_there zero (y ∷ xs) le = absurd (omega arith)
nothing_there (suc i) (y ∷ xs) le = nothing_there i xs (omega arith)
