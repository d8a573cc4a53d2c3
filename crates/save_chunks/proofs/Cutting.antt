-- Records that are cut into chunks from behind, and records in two parts.
use Rattle.std.proofs.Common.{◌≡◌, ℕ, zero, suc, ◌+◌, ◌-◌, ◌*◌, ◌/◌, ◌%◌, ◌<◌, ◌≤◌, Bool, List, [], ◌∷◌, ◌++◌, length, take, drop, refl, sym, ap, subst, ◌∙◌, arith, append_assoc, length-drop, take_all}
use Rattle.std.proofs.lemmas.List.{drop_all, take-append-le, drop-append-le, take-append-drop, length-take-le}
use Rattle.std.proofs.lemmas.List.Elements.{filter-append}
use Rattle.std.proofs.Math.Nat.{mod-lt, div-add-mod'}
use Rattle.std.specs.Prelude.{filter}
use Rattle.save_statements.specs.declared.pending.Act.{Act}
use Rattle.save_statements.specs.declared.statement.Placed.{Placed}
use Rattle.save_statements.specs.declared.statement.Chunk.{Chunk}
use Rattle.save_statements.specs.Statements.{cut, all_cut}

-- one record more in a part
pub part_next : (test : Placed → Bool) (part more : List Placed) (one : Placed) (before rest whole : List Placed) →
    before ≡ one ∷ rest → part ++ filter test before ≡ whole → more ≡ part ++ filter test (one ∷ []) → more ++ filter test rest ≡ whole
part_next test part more one before rest whole e w is =
    ap (λ n. n ++ filter test rest) is ∙ append_assoc part (filter test (one ∷ [])) (filter test rest)
    ∙ ap (λ t. part ++ t) (sym (filter-append test (one ∷ []) rest)) ∙ ap (λ t. part ++ filter test t) (sym e) ∙ w

-- ---- chunks

abbrev chunk_of : Act → List Placed → Chunk
chunk_of act rows = record { act = act; rows = rows }

cut_none : (n : ℕ) (act : Act) → cut n act [] ≡ []
cut_none zero act = refl
cut_none (suc n) act = refl

cut_last : (n : ℕ) (act : Act) (tail : List Placed) → 0 < length tail → length tail ≤ 200 → length tail ≤ n → cut n act tail ≡ chunk_of act tail ∷ []
cut_last n act [] some few enough = absurd (omega arith)
cut_last zero act (t ∷ ts) some few enough = absurd (omega arith)
cut_last (suc n) act (t ∷ ts) some few enough =
    ap (λ front. chunk_of act front ∷ cut n act (drop 200 (t ∷ ts))) (take_all 200 (t ∷ ts) few)
    ∙ ap (λ back. chunk_of act (t ∷ ts) ∷ cut n act back) (drop_all 200 (t ∷ ts) few)
    ∙ ap (λ cs. chunk_of act (t ∷ ts) ∷ cs) (cut_none n act)

-- a number of whole chunks, and some records more
cut_split : (k : ℕ) (act : Act) (front tail : List Placed) (n m : ℕ) → length front ≡ k * 200 → 0 < length tail → length tail ≤ 200 → length front + length tail ≤ n → length front ≤ m →
    cut n act (front ++ tail) ≡ cut m act front ++ chunk_of act tail ∷ []
cut_split zero act [] tail n m e some few enough room = cut_last n act tail some few (omega arith) ∙ ap (λ cs. cs ++ chunk_of act tail ∷ []) (sym (cut_none m act))
cut_split zero act (f ∷ fs) tail n m e some few enough room = absurd (omega arith)
cut_split (suc k) act [] tail n m e some few enough room = absurd (omega arith)
cut_split (suc k) act (f ∷ fs) tail zero m e some few enough room = absurd (omega arith)
cut_split (suc k) act (f ∷ fs) tail (suc n) zero e some few enough room = absurd (omega arith)
cut_split (suc k) act (f ∷ fs) tail (suc n) (suc m) e some few enough room =
    let whole : 200 ≤ length (f ∷ fs) = omega arith in
    let left : length (drop 200 (f ∷ fs)) ≡ length (f ∷ fs) - 200 = length-drop 200 (f ∷ fs) in
    let count : length (drop 200 (f ∷ fs)) ≡ k * 200 = omega arith in
    let fits : length (drop 200 (f ∷ fs)) + length tail ≤ n = omega arith in
    let within : length (drop 200 (f ∷ fs)) ≤ m = omega arith in
    ap (λ t. chunk_of act t ∷ cut n act (drop 200 ((f ∷ fs) ++ tail))) (take-append-le 200 (f ∷ fs) tail whole)
    ∙ ap (λ t. chunk_of act (take 200 (f ∷ fs)) ∷ cut n act t) (drop-append-le 200 (f ∷ fs) tail whole)
    ∙ ap (λ cs. chunk_of act (take 200 (f ∷ fs)) ∷ cs) (cut_split k act (drop 200 (f ∷ fs)) tail n m count some few fits within)

-- the last chunk of some records, and those before it
cut_back : (act : Act) (rows : List Placed) (at : ℕ) → 0 < length rows → at ≡ (length rows - 1) / 200 * 200 → all_cut act rows ≡ all_cut act (take at rows) ++ chunk_of act (drop at rows) ∷ []
cut_back act rows at some is =
    let whole = div-add-mod' (length rows - 1) 200 in
    let part : (length rows - 1) % 200 < 200 = mod-lt (length rows - 1) (omega arith) in
    let below : at < length rows = omega arith in
    let near : length rows ≤ at + 200 = omega arith in
    let front : length (take at rows) ≡ at = length-take-le at rows (omega arith) in
    let back : length (drop at rows) ≡ length rows - at = length-drop at rows in
    ap (λ rs. cut (length rows) act rs) (sym (take-append-drop at rows))
    ∙ cut_split ((length rows - 1) / 200) act (take at rows) (drop at rows) (length rows) (length (take at rows)) (front ∙ is) (omega arith) (omega arith) (omega arith) (omega arith)

-- so they stand above chunks that were there
pub cut_next : (act : Act) (rows front back : List Placed) (n at : ℕ) (chunks more whole : List Chunk) → 0 < n → n ≡ length rows → at ≡ (n - 1) / 200 * 200 → front ≡ take at rows → back ≡ drop at rows →
    all_cut act rows ++ chunks ≡ whole → more ≡ chunk_of act back ∷ chunks → all_cut act front ++ more ≡ whole
cut_next act rows front back n at chunks more whole some is start f b w e =
    let some_rows : 0 < length rows = omega arith in
    let at_rows : at ≡ (length rows - 1) / 200 * 200 = subst (λ m. at ≡ (m - 1) / 200 * 200) is start in
    ap (λ cs. all_cut act front ++ cs) e ∙ ap (λ rs. all_cut act rs ++ chunk_of act back ∷ chunks) f ∙ ap (λ rs. all_cut act (take at rows) ++ chunk_of act rs ∷ chunks) b
    ∙ sym (append_assoc (all_cut act (take at rows)) (chunk_of act (drop at rows) ∷ []) chunks) ∙ ap (λ cs. cs ++ chunks) (sym (cut_back act rows at some_rows at_rows)) ∙ w
