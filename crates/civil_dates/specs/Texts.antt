-- Dates and moments as texts (docs/formats.md, "Dates and moments").
use Rattle.std.specs.Prelude.{◌≡◌, ℕ, ◌+◌, ◌*◌, ◌&&◌, nat_lt, eqb, cond, Bool, true, List, [], ◌∷◌, ◌++◌, length, take, drop, slice_index, ℤ, pos, ◌+ℤ◌, ◌*ℤ◌, Option, None, Some}
use Rattle.std.specs.Char.{digit_value}
use Rattle.std.specs.Str.Parse.{digits_value}
use Rattle.civil_dates.specs.Dates.{day_number}

abbrev pub are_digits : List ℕ → Bool
are_digits [] = true
are_digits (c ∷ cs) = nat_lt (digit_value c) 10 && are_digits cs

-- three fields of digits, the first of n and the others of two, with a sign between them
abbrev pub is_three : ℕ → ℕ → List ℕ → Bool
is_three n sign text =
    eqb (length text) (n + 6) && (eqb (slice_index text n) sign && (eqb (slice_index text (n + 3)) sign
    && (are_digits (take n text) && (are_digits (take 2 (drop (n + 1) text)) && are_digits (take 2 (drop (n + 4) text))))))

abbrev pub first : ℕ → List ℕ → ℕ
first n text = digits_value 10 (take n text)

abbrev pub second : ℕ → List ℕ → ℕ
second n text = digits_value 10 (take 2 (drop (n + 1) text))

abbrev pub third : ℕ → List ℕ → ℕ
third n text = digits_value 10 (take 2 (drop (n + 4) text))

-- the day of a text YYYY-MM-DD
abbrev pub date_value : List ℕ → Option ℤ
date_value text = cond (is_three 4 45 text) (day_number (first 4 text) (second 4 text) (third 4 text)) None

-- the seconds from the beginning of the day to a time of it
abbrev pub clock : ℕ → ℕ → ℕ → Option ℕ
clock hour minute second = cond (nat_lt hour 24 && (nat_lt minute 60 && nat_lt second 60)) (Some (hour * 3600 + minute * 60 + second)) None

-- the seconds of a text hh:mm:ss
abbrev pub clock_value : List ℕ → Option ℕ
clock_value text = cond (is_three 2 58 text) (clock (first 2 text) (second 2 text) (third 2 text)) None

abbrev pub moment : Option ℤ → Option ℕ → Option ℤ
moment (Some day) (Some seconds) = Some (day *ℤ pos 86400 +ℤ pos seconds)
moment _ _ = None

-- the seconds of a text YYYY-MM-DDThh:mm:ssZ
abbrev pub moment_value : List ℕ → Option ℤ
moment_value text =
    cond (eqb (length text) 20 && (eqb (slice_index text 10) 84 && eqb (slice_index text 19) 90)) (moment (date_value (take 10 text)) (clock_value (take 8 (drop 11 text)))) None

-- the text of a moment with a blank between date and time, as it is with `T` and `Z`
abbrev pub zulu : List ℕ → List ℕ
zulu text = take 10 text ++ (84 ∷ (drop 11 text ++ (90 ∷ [])))

-- `Datetime.valueOfGmt`
abbrev pub stamp_value : List ℕ → Option ℤ
stamp_value text = cond (eqb (length text) 19 && eqb (slice_index text 10) 32) (moment_value (zulu text)) None

-- the text begins as YYYY-MM-DD or as YYYY-MM-DDThh:mm:ssZ, digits for the letters, be it a date or moment or not
abbrev pub begins_date : List ℕ → Bool
begins_date text = is_three 4 45 (take 10 text)

abbrev pub begins_moment : List ℕ → Bool
begins_moment text = begins_date text && (eqb (slice_index text 10) 84 && (is_three 2 58 (take 8 (drop 11 text)) && eqb (slice_index text 19) 90))

-- ---- the same as facts

abbrev pub IsDateText : List ℕ → ℤ → Type 0
IsDateText text day = date_value text ≡ Some day

abbrev pub IsMomentText : List ℕ → ℤ → Type 0
IsMomentText text n = moment_value text ≡ Some n

abbrev pub BeginsDate : List ℕ → Type 0
BeginsDate text = begins_date text ≡ true

abbrev pub BeginsMoment : List ℕ → Type 0
BeginsMoment text = begins_moment text ≡ true
