-- The sum of numbers in two parts.
use Rattle.std.proofs.Common.{◌≡◌, ℕ, List, [], ◌∷◌, ◌++◌, take, drop, Option, None, Some, ◌+ℤ◌, FitsSigned, refl, sym, ap, ◌∙◌, subst, arith}
use Rattle.std.proofs.Math.IntN.{+ℤ_assoc, +ℤ_idl}
use Rattle.std.proofs.lemmas.Int.{fits_signed_from_abs}
use Rattle.std.proofs.lemmas.List.{append_assoc, take-append-drop}
use Rattle.std.specs.Int.{w128}
use Rattle.std.specs.Prelude.{ℤ, MatchOption, SomeIff}
use Rattle.apex_num.specs.Decimals.{IsDecimal}
use Rattle.apex_rows.specs.declared.row.Row.{Row}
use Rattle.row_meaning.specs.Rollups.{field_number, numbers, total}

total_parts : (ds es : List ℤ) → total (ds ++ es) ≡ total ds +ℤ total es
total_parts [] es = sym (+ℤ_idl (total es))
total_parts (d ∷ ds) es = ap (λ x. d +ℤ x) (total_parts ds es) ∙ sym (+ℤ_assoc d (total ds) (total es))

numbers_parts : (field : Option ℕ) (rs ss : List Row) → numbers field (rs ++ ss) ≡ numbers field rs ++ numbers field ss
numbers_parts field [] ss = refl
numbers_parts field (r ∷ rs) ss =
    ap (λ x. field_number field r ++ x) (numbers_parts field rs ss) ∙ sym (append_assoc (field_number field r) (numbers field rs) (numbers field ss))

pub halves : (field : Option ℕ) (n : ℕ) (rows : List Row) → total (numbers field (take n rows)) +ℤ total (numbers field (drop n rows)) ≡ total (numbers field rows)
halves field n rows =
    sym (total_parts (numbers field (take n rows)) (numbers field (drop n rows)))
    ∙ ap total (sym (numbers_parts field (take n rows) (drop n rows)))
    ∙ ap (λ x. total (numbers field x)) (take-append-drop n rows)

-- a Decimal fits in 128 bits
fits : (t : ℤ) → IsDecimal t → FitsSigned w128 t
fits t h = fits_signed_from_abs w128 t (omega arith)

pub summed : (o : Option ℤ) (sum t : ℤ) → sum ≡ t → SomeIff o (FitsSigned w128 sum) sum → MatchOption o (IsDecimal t → ⊥) (λ d. d ≡ t)
summed None sum t e h = λ x. h (subst (FitsSigned w128) (sym e) (fits t x))
summed (Some d) sum t e h = h.1 ∙ e
