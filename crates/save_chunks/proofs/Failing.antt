-- What is told, and records that failed.
use Rattle.std.proofs.Common.{◌≡◌, ℕ, List, [], ◌∷◌, ◌++◌, length, None, refl, sym, ap, ◌∙◌, arith, append-nil}
use Rattle.std.specs.Prelude.{cond}
use Rattle.save_statements.specs.declared.pending.Record.{Record}
use Rattle.save_statements.specs.declared.statement.Placed.{Placed}
use Rattle.save_statements.specs.declared.statement.RecordOutcome.{RecordOutcome}
use Rattle.save_statements.specs.declared.statement.RecordOutcome.TheVariants.{Done, Failed}
use Rattle.save_statements.specs.declared.statement.Told.{Told}
use Rattle.save_statements.specs.Statements.{told, or_first, first_failed, is_failed, failed_in}

-- of no records there is nothing to tell
told_none : (rows : List Placed) → told rows [] ≡ []
told_none [] = refl
told_none (r ∷ rows) = refl

-- a list of no elements
pub none_left : {A : Type 0} (xs : List A) (n : ℕ) → n ≡ length xs → n ≡ 0 → xs ≡ []
none_left [] n e z = refl
none_left (x ∷ xs) n e z = absurd (omega (arith, e, z))

-- all is told
pub told_all : (sofar : List Told) (rows : List Placed) (rest : List Record) (whole : List Told) → rest ≡ [] → sofar ++ told rows rest ≡ whole → sofar ≡ whole
told_all sofar rows rest whole e w = sym (append-nil sofar) ∙ ap (λ ts. sofar ++ ts) (sym (told_none rows)) ∙ ap (λ ds. sofar ++ told rows ds) (sym e) ∙ w

-- where none failed, there is no first one that did
pub none_failed : (ts : List Told) → failed_in ts ≡ [] → first_failed ts ≡ None
none_failed [] e = refl
none_failed (t ∷ ts) e = by t.outcome (none_failed ts) e where
  by : (o : RecordOutcome) → (failed_in ts ≡ [] → first_failed ts ≡ None) → cond (is_failed o) (t ∷ failed_in ts) (failed_in ts) ≡ [] → or_first t.place o (first_failed ts) ≡ None
  by (Done id) more h = more h
  by (Failed error) more h = cc

-- and the other way round
pub none_found : (ts : List Told) → first_failed ts ≡ None → failed_in ts ≡ []
none_found [] e = refl
none_found (t ∷ ts) e = by t.outcome (none_found ts) e where
  by : (o : RecordOutcome) → (first_failed ts ≡ None → failed_in ts ≡ []) → or_first t.place o (first_failed ts) ≡ None → cond (is_failed o) (t ∷ failed_in ts) (failed_in ts) ≡ []
  by (Done id) more h = more h
  by (Failed error) more h = cc
