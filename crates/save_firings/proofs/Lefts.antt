-- The records as a trigger left them, one after the other.
use Rattle.std.proofs.Common.{◌≡◌, ℕ, List, [], ◌∷◌, ◌++◌, length, ap, sym, ◌∙◌, append-nil, refl, arith}
use Rattle.platform_errors.specs.declared.record.RecordError.{RecordError}
use Rattle.save_statements.specs.declared.firing.Left.{Left}
use Rattle.save_statements.specs.declared.firing.Entry.{Entry}
use Rattle.save_statements.specs.declared.firing.Entry.TheVariants.{Outside}
use Rattle.save_statements.specs.Firings.{all_left}

pub stays_outside : (ls : List Left) (e : RecordError) (es : List Entry) → all_left ls (Outside e ∷ es) ≡ Outside e ∷ all_left ls es
stays_outside [] e es = refl
stays_outside (l ∷ ls) e es = refl

none_behind : (ls : List Left) → all_left ls [] ≡ []
none_behind [] = refl
none_behind (l ∷ ls) = refl

-- no record is left
pub all_done : (ls : List Left) (done rest all : List Entry) (n : ℕ) → n ≡ length rest → n ≡ 0 → done ++ all_left ls rest ≡ all → done ≡ all
all_done ls done [] all n is end e = sym (append-nil done) ∙ ap (λ (es : List Entry). done ++ es) (sym (none_behind ls)) ∙ e
all_done ls done (entry ∷ rest) all n is end e = absurd (omega (arith, is, end))
