-- A list of triggers that becomes longer, among those of all objects.
use Rattle.std.proofs.Common.{◌≡◌, ℕ, zero, suc, ◌<◌, Bool, true, false, cond, eqb, List, [], ◌∷◌, ◌++◌, length, get_or, slice_set, ap, sym, subst, ◌∙◌, append-nil, refl, arith}
use Rattle.std.proofs.lemmas.Bool.{eqb-true, eqb-false}
use Rattle.save_statements.specs.declared.firing.Trigger.{Trigger}
use Rattle.save_firings.specs.Tables.{listed_at}
use Rattle.std.proofs.lemmas.List.{set-set}

set_here : (lists : List (List Trigger)) (object : ℕ) (longer : List Trigger) → object < length lists → listed_at (slice_set lists object longer) object ≡ longer
set_here [] object longer h = absurd (omega arith)
set_here (ts ∷ lists) zero longer h = refl
set_here (ts ∷ lists) (suc object) longer h = set_here lists object longer (omega arith)

set_elsewhere : (lists : List (List Trigger)) (object other : ℕ) (longer : List Trigger) → (object ≡ other → ⊥) → listed_at (slice_set lists object longer) other ≡ listed_at lists other
set_elsewhere [] object other longer apart = refl
set_elsewhere (ts ∷ lists) zero zero longer apart = absurd (apart refl)
set_elsewhere (ts ∷ lists) zero (suc other) longer apart = refl
set_elsewhere (ts ∷ lists) (suc object) zero longer apart = refl
set_elsewhere (ts ∷ lists) (suc object) (suc other) longer apart = set_elsewhere lists object other longer (λ e. apart (ap suc e))

there : (lists : List (List Trigger)) (object : ℕ) (old : List Trigger) → object < length lists → old ≡ get_or lists object old → listed_at lists object ≡ old
there [] object old h is = absurd (omega arith)
there (ts ∷ lists) zero old h is = sym is
there (ts ∷ lists) (suc object) old h is = there lists object old (omega arith) is

chosen : (lists : List (List Trigger)) (object other : ℕ) (longer more : List Trigger) (same : Bool) → eqb object other ≡ same → object < length lists → longer ≡ listed_at lists object ++ more → listed_at (slice_set lists object longer) other ≡ listed_at lists other ++ cond same more []
chosen lists object other longer more true e h is =
    let same : object ≡ other = eqb-true object other e in
    ap (λ n. listed_at (slice_set lists object longer) n) (sym same) ∙ set_here lists object longer h ∙ is ∙ ap (λ n. listed_at lists n ++ more) same
chosen lists object other longer more false e h is = set_elsewhere lists object other longer (eqb-false object other e) ∙ sym (append-nil (listed_at lists other))

-- the list of an object was taken out, and came back longer
pub longer_within : (lists all result : List (List Trigger)) (object : ℕ) (old first longer more : List Trigger) → all ≡ lists → object < length lists → old ≡ get_or all object old → longer ≡ old ++ more → result ≡ slice_set (slice_set all object first) object longer → (other : ℕ) → listed_at result other ≡ listed_at lists other ++ cond (eqb object other) more []
longer_within lists all result object old first longer more same h is more_is result_is other =
    let within : object < length all = subst (λ (ls : List (List Trigger)). object < length ls) (sym same) h in
    ap (λ (ls : List (List Trigger)). listed_at ls other) (result_is ∙ set-set all object first longer)
    ∙ chosen all object other longer more (eqb object other) refl within (more_is ∙ ap (λ ts. ts ++ more) (sym (there all object old within is)))
    ∙ ap (λ (ls : List (List Trigger)). listed_at ls other ++ cond (eqb object other) more []) same
