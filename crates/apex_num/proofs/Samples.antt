-- Small cases that were worked out by hand.
use Rattle.std.proofs.Common.{◌≡◌, refl, pos, negsuc, codes, inr}
use Rattle.std.specs.Fmt.{digits}
use Rattle.apex_num.specs.Decimals.{IsHalfEven, dec_text}
use Rattle.apex_num.specs.Ids.{checks}

-- halves go to the even neighbour, on both sides of zero
half_down : IsHalfEven (pos 5) (pos 2) (pos 2)
half_down = inr (refl, refl)

half_up : IsHalfEven (pos 7) (pos 2) (pos 4)
half_up = inr (refl, refl)

half_below_zero : IsHalfEven (negsuc 4) (pos 2) (negsuc 1)
half_below_zero = inr (refl, refl)

half_of_two : IsHalfEven (pos 5) (negsuc 1) (negsuc 1)
half_of_two = inr (refl, refl)

nothing : dec_text (pos 0) ≡ codes "0"
unfolding digits
nothing = refl

one_millionth : dec_text (negsuc 0) ≡ codes "-0.000001"
unfolding digits
one_millionth = refl

no_zeros_at_the_end : dec_text (pos 1200000) ≡ codes "1.2"
unfolding digits
no_zeros_at_the_end = refl

zeros_before : dec_text (pos 10050000) ≡ codes "10.05"
unfolding digits
zeros_before = refl

largest : dec_text (pos 9999999999999999999) ≡ codes "9999999999999.999999"
unfolding digits
largest = refl

checks_of_an_id : checks (codes "001D000000IqhSL") ≡ codes "IAZ"
checks_of_an_id = refl

checks_of_capitals : checks (codes "ABCDEFGHIJKLMNO") ≡ codes "555"
checks_of_capitals = refl

checks_of_both : checks (codes "zzzzZZZZZzzzZzz") ≡ codes "QPE"
checks_of_both = refl
