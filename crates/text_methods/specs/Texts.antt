-- What the methods of String answer, over the Unicode scalar values of a text (docs/language.md, "Methods of texts").
use Rattle.std.specs.Prelude.{ℕ, zero, suc, ◌+◌, ◌-◌, ◌^◌, min, ◌&&◌, not, nat_le, eqb, cond, Bool, true, false, List, [], ◌∷◌, ◌++◌, length, take, drop, reverse, chars, codes, ℤ, pos, negsuc, Option, None, Some, option_map}
use Rattle.std.specs.List.{list_all, repeat}
use Rattle.std.specs.Char.{is_whitespace, is_ascii_digit}

-- ---- places

-- a negative number counts as 0
abbrev pub place : ℤ → ℕ
place (pos n) = n
place (negsuc n) = 0

-- `substring(n, m)`: none where not 0 <= n <= m <= length
abbrev pub part : ℤ → ℤ → List ℕ → Option (List ℕ)
part (pos n) (pos m) cs = cond (nat_le n m && nat_le m (length cs)) (Some (take (m - n) (drop n cs))) None
part _ _ cs = None

-- `left`, `right` and `mid` are cut to what is there
abbrev pub left : ℤ → List ℕ → List ℕ
left n cs = take (place n) cs

abbrev pub right : ℤ → List ℕ → List ℕ
right n cs = drop (length cs - place n) cs

abbrev pub mid : ℤ → ℤ → List ℕ → List ℕ
mid n m cs = take (place m) (drop (place n) cs)

-- ---- where a text occurs in another

-- the second begins with the first
abbrev pub begins : List ℕ → List ℕ → Bool
begins [] cs = true
begins (t ∷ ts) [] = false
begins (t ∷ ts) (c ∷ cs) = eqb t c && begins ts cs

-- the first place where it occurs
abbrev pub first_of : List ℕ → List ℕ → Option ℕ
first_of ts [] = cond (begins ts []) (Some 0) None
first_of ts (c ∷ cs) = cond (begins ts (c ∷ cs)) (Some 0) (option_map suc (first_of ts cs))

abbrev pub later : Option ℕ → Bool → Option ℕ
later (Some n) here = Some (suc n)
later None here = cond here (Some 0) None

-- the last place where it occurs
abbrev pub last_of : List ℕ → List ℕ → Option ℕ
last_of ts [] = cond (begins ts []) (Some 0) None
last_of ts (c ∷ cs) = later (last_of ts cs) (begins ts (c ∷ cs))

-- the first place from the n-th on; none past the end
abbrev pub first_from : ℕ → List ℕ → List ℕ → Option ℕ
first_from n ts cs = cond (nat_le n (length cs)) (option_map (λ k. n + k) (first_of ts (drop n cs))) None

-- `removeStart`
abbrev pub without_start : List ℕ → List ℕ → List ℕ
without_start ts cs = cond (begins ts cs) (drop (length ts) cs) cs

abbrev pub ends : List ℕ → List ℕ → Bool
ends ts cs = nat_le (length ts) (length cs) && begins ts (drop (length cs - length ts) cs)

-- `removeEnd`
abbrev pub without_end : List ℕ → List ℕ → List ℕ
without_end ts cs = cond (ends ts cs) (take (length cs - length ts) cs) cs

abbrev pub up_to : Option ℕ → List ℕ → List ℕ
up_to (Some n) cs = take n cs
up_to None cs = cs

-- `substringBefore`: all where it doesn't occur
abbrev pub before : List ℕ → List ℕ → List ℕ
before ts cs = up_to (first_of ts cs) cs

abbrev pub behind : Option ℕ → ℕ → List ℕ → List ℕ
behind (Some n) m cs = drop (n + m) cs
behind None m cs = []

-- `substringAfter`: nothing where it doesn't occur
abbrev pub after : List ℕ → List ℕ → List ℕ
after ts cs = behind (first_of ts cs) (length ts) cs

-- from the left, where the first k scalars belong to an occurrence before: behind the first scalar of one, the others are
-- passed
abbrev pub replaced : List ℕ → List ℕ → ℕ → List ℕ → List ℕ
replaced ts us k [] = []
replaced ts us (suc k) (c ∷ cs) = replaced ts us k cs
replaced ts us zero (c ∷ cs) = cond (begins ts (c ∷ cs)) (us ++ replaced ts us (length (drop 1 ts)) cs) (c ∷ replaced ts us zero cs)

-- `replace`: the occurrences that don't overlap, from the left; those of the empty text stay
abbrev pub replace : List ℕ → List ℕ → List ℕ → List ℕ
replace [] us cs = cs
replace (t ∷ ts) us cs = replaced (t ∷ ts) us 0 cs

abbrev pub counted : List ℕ → ℕ → List ℕ → ℕ
counted ts k [] = 0
counted ts (suc k) (c ∷ cs) = counted ts k cs
counted ts zero (c ∷ cs) = cond (begins ts (c ∷ cs)) (suc (counted ts (length (drop 1 ts)) cs)) (counted ts zero cs)

-- `countMatches`: those occurrences
abbrev pub matches : List ℕ → List ℕ → ℕ
matches [] cs = 0
matches (t ∷ ts) cs = counted (t ∷ ts) 0 cs

-- ---- letters and blanks

-- `capitalize` and `uncapitalize`
abbrev pub first_by : (ℕ → ℕ) → List ℕ → List ℕ
first_by f [] = []
first_by f (c ∷ cs) = f c ∷ cs

-- `trim`: without the scalars up to U+0020 at both ends
abbrev pub without_low : List ℕ → List ℕ
without_low [] = []
without_low (c ∷ cs) = cond (nat_le c 32) (without_low cs) (c ∷ cs)

abbrev pub trimmed : List ℕ → List ℕ
trimmed cs = reverse (without_low (reverse (without_low cs)))

-- `repeat`, of the bytes
abbrev pub repeated : ℤ → List ℕ → List ℕ
repeated n bs = repeat (place n) bs

-- `leftPad` and `rightPad`, of the bytes: as many blanks as scalars are missing
abbrev pub blanks : ℤ → List ℕ → List ℕ
blanks n bs = repeat (place n - length (chars bs)) (codes " ")

abbrev pub left_pad : ℤ → List ℕ → List ℕ
left_pad n bs = blanks n bs ++ bs

abbrev pub right_pad : ℤ → List ℕ → List ℕ
right_pad n bs = bs ++ blanks n bs

-- `isNumeric`
abbrev pub is_numeric : List ℕ → Bool
is_numeric cs = not (eqb (length cs) 0) && list_all is_ascii_digit cs

-- `isBlank`: only scalars that are white space
abbrev pub is_blank : List ℕ → Bool
is_blank cs = list_all is_whitespace cs

-- ---- the size of a text that a method answers

-- more bytes than 64 bits can tell count as 2^64 - 1
abbrev pub capped : ℕ → ℕ
capped n = min n (2 ^ 64 - 1)
