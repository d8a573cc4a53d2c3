-- Pieces that follow one another.
use Rattle.std.proofs.Common.{◌≡◌, ℕ, ◌+◌, ◌<◌, ◌≤◌, inl, inr, ⊎_elim, List, [], ◌++◌, length, take, drop, ◌-◌, Option, Some, None, refl, sym, ap, ◌∙◌, subst, arith, append_assoc, append-nil}
use Rattle.std.proofs.lemmas.List.{take-append-drop, drop-drop, length-append}
use Rattle.std.proofs.Math.Seq.{take-append_seam}
use Rattle.apex_io.specs.Outside.{Rose, Takes, Adds}
use Rattle.apex_io.specs.Whole.{ReadCause}
use Rattle.apex_io.specs.declared.whole.ReadFault.{ReadFault}
use Rattle.apex_io.specs.declared.whole.ReadFault.TheVariants.{Failed, TooLong, NoMemory}

pub takes_none : (old : Option (List ℕ)) → Takes old [] old
takes_none None = tt
takes_none (Some left) = refl

pub takes_more : (old mid new : Option (List ℕ)) (a b : List ℕ) → Takes old a mid → Takes mid b new → Takes old (a ++ b) new
takes_more None None None a b p q = tt
takes_more None None (Some n) a b p q = q
takes_more None (Some m) new a b p q = absurd p
takes_more (Some l) None new a b p q = absurd p
takes_more (Some l) (Some m) None a b p q = q
takes_more (Some l) (Some m) (Some n) a b p q = p ∙ ap (λ x. a ++ x) q ∙ sym (append_assoc a b n)

pub takes_same : (old new : Option (List ℕ)) (bytes : List ℕ) → bytes ≡ [] → new ≡ old → Takes old bytes new
takes_same old new bytes e s = subst (λ b. Takes old b new) (sym e) (subst (λ n. Takes old [] n) (sym s) (takes_none old))

pub adds_none : (old : Option (List ℕ)) → Adds old [] old
adds_none None = tt
adds_none (Some held) = sym (append-nil held)

pub adds_more : (old mid new : Option (List ℕ)) (a b : List ℕ) → Adds old a mid → Adds mid b new → Adds old (a ++ b) new
adds_more None None None a b p q = tt
adds_more None None (Some n) a b p q = q
adds_more None (Some m) new a b p q = absurd p
adds_more (Some l) None new a b p q = absurd p
adds_more (Some l) (Some m) None a b p q = q
adds_more (Some l) (Some m) (Some n) a b p q = q ∙ ap (λ x. x ++ b) p ∙ append_assoc l a b

pub rose_since : (old mid new : ℕ) → old ≤ mid → Rose mid new → Rose old new
rose_since old mid new le r = ⊎_elim (λ (h : mid < new). inl (omega arith)) (λ h. inr h) r

pub cut_at : (bytes : List ℕ) (at n : ℕ) (front : List ℕ) → front ≡ take n (drop at bytes) → drop at bytes ≡ front ++ drop (at + n) bytes
cut_at bytes at n front e =
    sym (take-append-drop n (drop at bytes)) ∙ ap (λ f. f ++ drop n (drop at bytes)) (sym e) ∙ ap (λ b. front ++ b) (drop-drop n at bytes)

-- what was sent is a front of the text
pub sent_front : (text front rest : List ℕ) (old mid new : Option (List ℕ)) → text ≡ front ++ rest → Adds old front mid → new ≡ mid → (n : ℕ) × (n ≤ length text) × Adds old (take n text) new
sent_front text front rest old mid new e a s =
    let l = ap length e ∙ length-append front rest in
    let t : take (length front) text ≡ front = ap (λ x. take (length front) x) e ∙ take-append_seam front rest in
    (length front, omega arith, subst (λ b. Adds old b new) (sym t) (subst (λ m. Adds old front m) (sym s) a))

-- one piece more was sent
pub sent_more : (text rest piece after : List ℕ) (old mid new : Option (List ℕ)) → ((front : List ℕ) × (text ≡ front ++ rest) × Adds old front mid) → rest ≡ piece ++ after → Adds mid piece new → (front : List ℕ) × (text ≡ front ++ after) × Adds old front new
sent_more text rest piece after old mid new s e a =
    (s.0 ++ piece, s.1 ∙ ap (λ r. s.0 ++ r) e ∙ sym (append_assoc s.0 piece after), adds_more old mid new s.0 piece s.2 a)

-- a cause that came behind these bytes
pub later_cause : (fault : ReadFault) (most : ℕ) (old mid new : Option (List ℕ)) (bytes : List ℕ) (first faults later : ℕ) → length bytes ≤ most → Takes old bytes mid → first ≤ faults → ReadCause fault (most - length bytes) mid new faults later → ReadCause fault most old new first later
later_cause Failed most old mid new bytes first faults later fits t le cause = rose_since first faults later le cause
later_cause TooLong most old mid new bytes first faults later fits t le cause =
    let l = length-append bytes cause.0 in
    (bytes ++ cause.0, omega (arith, cause.1), takes_more old mid new bytes cause.0 t cause.2)
later_cause NoMemory most old mid new bytes first faults later fits t le cause = tt
