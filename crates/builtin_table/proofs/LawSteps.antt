-- The laws of the methods whose definitions stand in `Meanings`.
use Rattle.std.proofs.Common.{arith, ◌≡◌, ◌≢◌, ◌⊎◌, ◌<◌, ◌%◌, ◌^◌, ◌&&◌, ℕ, zero, suc, Bool, true, false, cond, lt-ltb, eqb, eqb-true, ℤ, pos, negsuc, neg_ℤ, ◌*ℤ◌, unsigned_abs, List, length, take, chars, bytes_eq, Some, None, inl, inr, refl, sym, ap, ◌∙◌}
use Rattle.std.specs.declared.cmp.Ordering.TheVariants.{Less, Equal, Greater}
use Rattle.std.proofs.lemmas.Int.{ints, quot-rem, rem_below, int_max_is, int_min_is}
use Rattle.std.proofs.lemmas.Bool.{and_parts}
use Rattle.std.proofs.lemmas.List.{nil_from_length}
use Rattle.std.proofs.lemmas.Slice.Eq.{bytes_eq-Decides}
use Rattle.std.proofs.lemmas.Str.{chars-nil}
use Rattle.apex_num.specs.Ids.{long_id, is_id}
use Rattle.apex_num.specs.declared.cell.Cell.TheVariants as Cells
use Rattle.text_methods.specs.Texts.{is_blank}
use Rattle.builtin_table.specs.Laws.{SignAndSize, SizeOfType, GreatestAndLeast, RestOfQuotient, RestHasSign, ComparedBack, EmptyIsBlank, IdOfText}

sign_by : (n : ℕ) (b : Bool) → eqb n 0 ≡ b → cond b (pos 0) (pos 1) *ℤ pos n ≡ pos n
sign_by n true e = let z = eqb-true n 0 e in omega (arith, ints)
sign_by n false e = omega (arith, ints)

pub sign_and_size : SignAndSize
sign_and_size (pos n) = sign_by n (eqb n 0) refl
sign_and_size (negsuc n) = omega (arith, ints)

pub size_of_type : SizeOfType
size_of_type bits n h = ap (λ b. cond b (pos (unsigned_abs n)) n) (lt-ltb (unsigned_abs n) (2 ^ bits) h)

pub greatest_and_least : GreatestAndLeast
greatest_and_least x y =
    let a = int_max_is x y in let b = int_min_is x y in
    (omega (arith, ints), omega (arith, ints), omega (arith, ints), omega (arith, ints), omega (arith, ints))

pub rest_of_quotient : RestOfQuotient
rest_of_quotient x y h = (quot-rem x y, rem_below x y (some y h)) where
  some : (y : ℤ) → y ≢ pos 0 → 0 < unsigned_abs y
  some (pos zero) h = absurd (h refl)
  some (pos (suc n)) h = omega arith
  some (negsuc n) h = omega arith

pub rest_has_sign : RestHasSign
rest_has_sign zero y = (refl, nothing (unsigned_abs y)) where
  nothing : (k : ℕ) → pos (0 % k) ≡ neg_ℤ (pos (0 % k))
  nothing k = let z : 0 % k ≡ 0 = grind arith in rw z refl
rest_has_sign (suc n) y = (refl, refl)

pub compared_back : ComparedBack
compared_back Less = refl
compared_back Equal = refl
compared_back Greater = refl

empty_text : (bs : List ℕ) → eqb (length bs) 0 ≡ true → is_blank (chars bs) ≡ true
empty_text bs e = ap (λ s. is_blank (chars s)) (nil_from_length bs (eqb-true (length bs) 0 e)) ∙ ap is_blank chars-nil

pub empty_is_blank : EmptyIsBlank
empty_is_blank (Cells.Text bs) e = empty_text bs e
empty_is_blank Cells.Null e = refl
empty_is_blank (Cells.Bool b) e = refl
empty_is_blank (Cells.Whole n) e = refl
empty_is_blank (Cells.Num c) e = refl
empty_is_blank (Cells.Id i) e = refl
empty_is_blank (Cells.Day n) e = refl
empty_is_blank (Cells.Moment n) e = refl

id_long : (bs : List ℕ) → is_id bs ≡ true → length bs ≡ 15
id_long bs e = eqb-true (length bs) 15 (and_parts (eqb (length bs) 15) _ e).0

long_by : (bs id : List ℕ) (b : Bool) → (is_id (take 15 bs) && bytes_eq bs (long_id (take 15 bs))) ≡ b → cond b (Some (take 15 bs)) None ≡ Some id → (length id ≡ 15) × ((bs ≡ id) ⊎ (bs ≡ long_id id))
long_by bs id true e is =
    let same : take 15 bs ≡ id = cc in
    let p = and_parts (is_id (take 15 bs)) (bytes_eq bs (long_id (take 15 bs))) e in
    (ap length (sym same) ∙ id_long (take 15 bs) p.0, inr ((bytes_eq-Decides bs (long_id (take 15 bs))).0 p.1 ∙ ap long_id same))
long_by bs id false e is = absurd (cc)

id_by : (bs id : List ℕ) (b : Bool) → is_id bs ≡ b → cond b (Some bs) (cond (is_id (take 15 bs) && bytes_eq bs (long_id (take 15 bs))) (Some (take 15 bs)) None) ≡ Some id → (length id ≡ 15) × ((bs ≡ id) ⊎ (bs ≡ long_id id))
id_by bs id true e is = let same : bs ≡ id = cc in (ap length (sym same) ∙ id_long bs e, inl same)
id_by bs id false e is = long_by bs id (is_id (take 15 bs) && bytes_eq bs (long_id (take 15 bs))) refl is

pub id_of_text : IdOfText
id_of_text bs id e = id_by bs id (is_id bs) refl e
