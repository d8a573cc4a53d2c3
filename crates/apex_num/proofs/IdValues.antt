-- The Id that a text names, by tests.
use Rattle.std.proofs.Common.{arith, ◌≡◌, ◌≢◌, ◌≤◌, ◌&&◌, inl, inr, ℕ, true, false, cond, leb, List, length, take, Option, Some, None, MatchOption, All, refl, sym, ap, ◌∙◌, subst, le-leb, leb-true, length-append}
use Rattle.std.specs.Bool.{Decides}
use Rattle.std.specs.Str.{bytes_eq}
use Rattle.std.specs.List.{list_all}
use Rattle.std.proofs.lemmas.Bool.Decides.{Decides-and, Decides-or, Decides-eqb, Decides-by_and}
use Rattle.std.proofs.lemmas.Slice.Eq.{bytes_eq-Decides}
use Rattle.std.proofs.lemmas.Bool.{false_from_ne_true}
use Rattle.std.proofs.Math.Seq.{take-append_seam}
use Rattle.apex_num.specs.Ids.{IsAlphanumeric, IsId, Names, long_id, checks, is_alphanumeric, is_id, id_value}
use Rattle.apex_num.proofs.Checks.{not_short, not_long, neither}

leb_decide : (a b : ℕ) → Decides (leb a b) (a ≤ b)
leb_decide a b = (leb-true a b, le-leb a b)

alphanumeric_decide : (c : ℕ) → Decides (is_alphanumeric c) (IsAlphanumeric c)
alphanumeric_decide c =
    Decides-or _ _ (Decides-and _ _ (leb_decide 48 c) (leb_decide c 57)) (Decides-or _ _ (Decides-and _ _ (leb_decide 65 c) (leb_decide c 90)) (Decides-and _ _ (leb_decide 97 c) (leb_decide c 122)))

all_decide : (bs : List ℕ) → Decides (list_all is_alphanumeric bs) (All IsAlphanumeric bs)
all_decide bs = Decides-by_and is_alphanumeric IsAlphanumeric (list_all is_alphanumeric) alphanumeric_decide refl (λ b bs. refl) bs

id_decide : (bs : List ℕ) → Decides (is_id bs) (IsId bs)
id_decide bs = Decides-and _ _ (Decides-eqb (length bs) 15) (all_decide bs)

found : (bs id : List ℕ) → Names bs id → Some id ≡ id_value bs
found bs id (is, inl e) = sym (ap id_value e ∙ ap (λ b. cond b (Some id) (cond (is_id (take 15 id) && bytes_eq id (long_id (take 15 id))) (Some (take 15 id)) None)) ((id_decide id).1 is))
found bs id (is, inr e) =
    let l = ap length e in
    let a = length-append id (checks id) in
    let k = is.0 in
    let long : is_id bs ≡ false = false_from_ne_true (is_id bs) (λ t. let s = ((id_decide bs).0 t).0 in absurd (omega arith)) in
    let front : take 15 bs ≡ id = ap (take 15) e ∙ ap (λ n. take n (long_id id)) (sym k) ∙ take-append_seam id (checks id) in
    let same : (is_id (take 15 bs) && bytes_eq bs (long_id (take 15 bs))) ≡ true =
    (Decides-and _ _ (id_decide (take 15 bs)) (bytes_eq-Decides bs (long_id (take 15 bs)))).1 (subst IsId (sym front) is, e ∙ ap long_id (sym front)) in
    sym (ap (λ b. cond b (Some bs) (cond (is_id (take 15 bs) && bytes_eq bs (long_id (take 15 bs))) (Some (take 15 bs)) None)) long ∙ ap (λ b. cond b (Some (take 15 bs)) None) same ∙ ap Some front)

nothing : (bs : List ℕ) → ((id : List ℕ) → Names bs id → ⊥) → None ≡ id_value bs
nothing bs h =
    let short : is_id bs ≡ false = false_from_ne_true (is_id bs) (λ t. h bs ((id_decide bs).0 t, inl refl)) in
    let long : (is_id (take 15 bs) && bytes_eq bs (long_id (take 15 bs))) ≡ false =
    false_from_ne_true _ (λ t. let p = (Decides-and _ _ (id_decide (take 15 bs)) (bytes_eq-Decides bs (long_id (take 15 bs)))).0 t in h (take 15 bs) (p.0, inr p.1)) in
    sym (ap (λ b. cond b (Some bs) (cond (is_id (take 15 bs) && bytes_eq bs (long_id (take 15 bs))) (Some (take 15 bs)) None)) short ∙ ap (λ b. cond b (Some (take 15 bs)) None) long)

-- by the number of characters
pub short : (bs : List ℕ) (r : Option (List ℕ)) → length bs ≡ 15 → MatchOption r (IsId bs → ⊥) (λ id. (id ≡ bs) × IsId bs) → r ≡ id_value bs
short bs (Some id) len h = found bs id (subst IsId (sym h.0) h.1, inl (sym h.0))
short bs None len h = nothing bs (not_short bs len h)

pub long : (bs : List ℕ) (r : Option (List ℕ)) → length bs ≡ 18 → MatchOption r ((id : List ℕ) → IsId id → bs ≡ long_id id → ⊥) (λ id. IsId id × (bs ≡ long_id id)) → r ≡ id_value bs
long bs (Some id) len h = found bs id (h.0, inr h.1)
long bs None len h = nothing bs (not_long bs len h)

pub other : (bs : List ℕ) → length bs ≢ 15 → length bs ≢ 18 → None ≡ id_value bs
other bs a b = nothing bs (neither bs a b)
