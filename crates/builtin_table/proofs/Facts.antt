-- Texts of Decimals and of Ids.
use Rattle.std.proofs.Common.{arith, ◌≡◌, ◌<◌, ℕ, ℤ, Bool, true, false, List, [], ◌∷◌, take, drop, codes, nat_lt, ltb-true, slice_index_or, All, refl, sym, subst}
use Rattle.std.specs.Str.{IsUtf8, IsAscii}
use Rattle.std.specs.Char.{digit_value}
use Rattle.std.specs.Str.Parse.{AllDigits}
use Rattle.std.specs.List.{list_all}
use Rattle.std.proofs.lemmas.Bool.{and_parts}
use Rattle.std.proofs.lemmas.Str.{IsUtf8-from_ascii, IsAscii-append}
use Rattle.std.proofs.lemmas.Str.Ascii.{IsAscii-nil, IsAscii-cons, IsAscii-from_all}
use Rattle.apex_num.specs.Ids.{IsAlphanumeric, IsId, long_id, checks, check, capitals}
use Rattle.apex_num.specs.Decimals.{Spells, sign, after_dot}

-- ---- texts of Decimals

digit_small : (c : ℕ) → digit_value c < 10 → c < 128
digit_small c h = grind arith

digits_ascii : (ds : List ℕ) → AllDigits 10 ds → IsAscii ds
digits_ascii [] d = IsAscii-nil
digits_ascii (c ∷ cs) d = IsAscii-cons c cs (digit_small c d.0) (digits_ascii cs d.1)

part_ascii : (ds : List ℕ) → AllDigits 10 ds → IsAscii (after_dot ds)
part_ascii [] d = IsAscii-nil
part_ascii (c ∷ cs) d = IsAscii-cons 46 (c ∷ cs) (omega arith) (digits_ascii (c ∷ cs) d)

sign_ascii : (minus : Bool) → IsAscii (sign minus)
sign_ascii false = IsAscii-nil
sign_ascii true = IsAscii-cons 45 [] (omega arith) IsAscii-nil

-- what spells a Decimal is text
pub spelled_utf8 : (text : List ℕ) (c : ℤ) → Spells text c → IsUtf8 text
spelled_utf8 text c h =
    let size = h.rest in
    let part = size.rest in
    let after : IsAscii size.after = subst IsAscii (sym part.written) (part_ascii part.part part.digits) in
    let body : IsAscii h.body = subst IsAscii (sym size.written) (IsAscii-append size.whole size.after (digits_ascii size.whole size.digits.1) after) in
    IsUtf8-from_ascii text (subst IsAscii (sym h.written) (IsAscii-append (sign h.minus) h.body (sign_ascii h.minus) body))

-- ---- texts of Ids

ascii_by : (bs : List ℕ) → list_all (λ b. nat_lt b 128) bs ≡ true → IsAscii bs
ascii_by [] e = IsAscii-nil
ascii_by (b ∷ bs) e = let p = and_parts (nat_lt b 128) (list_all (λ b. nat_lt b 128) bs) e in IsAscii-cons b bs (ltb-true b 128 p.0) (ascii_by bs p.1)

table_ascii : IsAscii (codes "ABCDEFGHIJKLMNOPQRSTUVWXYZ012345")
table_ascii = ascii_by (codes "ABCDEFGHIJKLMNOPQRSTUVWXYZ012345") refl

checks_ascii : (id : List ℕ) → IsAscii (checks id)
checks_ascii id =
    let first = check (take 5 id) in
    let second = check (take 5 (drop 5 id)) in
    let third = check (take 5 (drop 10 id)) in
    IsAscii-cons first (second ∷ third ∷ []) (table_ascii (capitals (take 5 id)))
    (IsAscii-cons second (third ∷ []) (table_ascii (capitals (take 5 (drop 5 id)))) (IsAscii-cons third [] (table_ascii (capitals (take 5 (drop 10 id)))) IsAscii-nil))

letters_small : (c : ℕ) → IsAlphanumeric c → c < 128
letters_small c h = grind arith

letters_ascii : (bs : List ℕ) → All IsAlphanumeric bs → IsAscii bs
letters_ascii bs h = IsAscii-from_all bs (λ k d lt. letters_small (slice_index_or bs k d) (h k d lt))

pub id_utf8 : (id : List ℕ) → IsId id → IsUtf8 (long_id id)
id_utf8 id h = IsUtf8-from_ascii (long_id id) (IsAscii-append id (checks id) (letters_ascii id h.1) (checks_ascii id))
