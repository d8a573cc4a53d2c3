-- The text of a primitive value (docs/language.md, "Texts of values").
use Rattle.std.specs.Prelude.{ℕ, zero, suc, ◌+◌, ◌/◌, ◌%◌, cond, List, [], ◌∷◌, ◌++◌, codes}
use Rattle.std.specs.Fmt.{signed_decimal}
use Rattle.apex_num.specs.declared.cell.Cell.{Cell}
use Rattle.apex_num.specs.declared.cell.Cell.TheVariants as Cells
use Rattle.apex_num.specs.Decimals.{dec_text}
use Rattle.apex_num.specs.Ids.{long_id}
use Rattle.civil_dates.specs.Dates.{Date, date_at, is_day, is_moment, day_part, second_part}

-- the last k digits of a number
abbrev pub digits : ℕ → ℕ → List ℕ
digits zero n = []
digits (suc k) n = digits k (n / 10) ++ ((48 + n % 10) ∷ [])

-- YYYY-MM-DD
abbrev pub date_text : Date → List ℕ
date_text d = digits 4 d.year ++ (45 ∷ (digits 2 d.month ++ (45 ∷ digits 2 d.day)))

-- hh:mm:ss
abbrev pub clock_text : ℕ → List ℕ
clock_text n = digits 2 (n / 3600) ++ (58 ∷ (digits 2 (n / 60 % 60) ++ (58 ∷ digits 2 (n % 60))))

-- a number that is no day or moment of the years 1 to 9999, which no value has, shows nothing
abbrev pub shown : Cell → List ℕ
shown Cells.Null = codes "null"
shown (Cells.Bool b) = cond b (codes "true") (codes "false")
shown (Cells.Whole n) = signed_decimal n
shown (Cells.Num d) = dec_text d
shown (Cells.Text text) = text
shown (Cells.Id id) = long_id id
shown (Cells.Day n) = cond (is_day n) (date_text (date_at n)) []
shown (Cells.Moment n) = cond (is_moment n) (date_text (date_at (day_part n)) ++ (32 ∷ clock_text (second_part n))) []
