-- Laws of the methods of String, one or more for each, which show that the definitions of `Texts` are the intended ones (docs/language.md, "Methods of texts"). Texts are lists of scalars here, `cs` the receiver, where nothing else is said.
use Rattle.std.specs.Prelude.{◌≡◌, ℕ, nat_le, suc, ◌+◌, ◌-◌, ◌*◌, ◌<◌, ◌≤◌, ◌↔◌, min, max, true, List, [], ◌∷◌, ◌++◌, length, take, drop, map, reverse, chars, encode_utf8_all, bytes_eq, slice_index, codes, ℤ, pos, negsuc, None, Some, is_some, option_map, MatchOption, EachIndex}
use Rattle.std.specs.Char.{is_whitespace, is_ascii_digit, to_ascii_uppercase, to_ascii_lowercase}
use Rattle.std.specs.Cmp.{IsTotalOrder}
use Rattle.std.specs.Int.{IsInRange}
use Rattle.std.specs.List.{list_all, repeat}
use Rattle.std.specs.Cmp.Lexicographic.{slice_cmp}
use Rattle.std.specs.Ordering.{nat_cmp}
use Rattle.std.specs.Str.{IsUtf8, str_eq_ignore_ascii_case}
use Rattle.text_methods.specs.Texts.{part, left, right, mid, begins, ends, first_of, last_of, first_from, without_start, without_end, before, after, replace, matches, first_by, without_low, trimmed, repeated, left_pad, right_pad, is_numeric, is_blank}

-- ---- parts

-- `length`: that of two texts, one behind the other, is the sum
abbrev pub LengthAdds : Type 0
LengthAdds = (s t : List ℕ) → IsUtf8 s → length (chars (s ++ t)) ≡ length (chars s) + length (chars t)

-- `substring(n, m)`: it stands behind the first n scalars and before those from place m on
abbrev pub PartFits : Type 0
PartFits = (n m : ℕ) (cs : List ℕ) → n ≤ m → m ≤ length cs → (r : List ℕ) × (part (pos n) (pos m) cs ≡ Some r) × (take n cs ++ (r ++ drop m cs) ≡ cs)

-- and there is such a part exactly where 0 <= n <= m <= length
abbrev pub AreWithin : ℤ → ℤ → List ℕ → Type 0
AreWithin n m cs = (i : ℕ) × (j : ℕ) × (n ≡ pos i) × (m ≡ pos j) × (i ≤ j) × (j ≤ length cs)

abbrev pub PartExactly : Type 0
PartExactly = (n m : ℤ) (cs : List ℕ) → MatchOption (part n m cs) (AreWithin n m cs → ⊥) (λ r. AreWithin n m cs)

-- `substring(0)` is the whole
abbrev pub WholePart : Type 0
WholePart = (cs : List ℕ) → part (pos 0) (pos (length cs)) cs ≡ Some cs

-- `left` and `right` that leave nothing out and share nothing are the text
abbrev pub LeftAndRight : Type 0
LeftAndRight = (n : ℕ) (cs : List ℕ) → n ≤ length cs → left (pos n) cs ++ right (pos (length cs - n)) cs ≡ cs

-- they stand at its front and its back, as many scalars as asked for or all, and none for a negative number
abbrev pub LeftIsFront : Type 0
LeftIsFront = (n : ℕ) (cs : List ℕ) → ((back : List ℕ) × (cs ≡ left (pos n) cs ++ back)) × (length (left (pos n) cs) ≡ min n (length cs)) × (left (negsuc n) cs ≡ [])

abbrev pub RightIsBack : Type 0
RightIsBack = (n : ℕ) (cs : List ℕ) → ((front : List ℕ) × (cs ≡ front ++ right (pos n) cs)) × (length (right (pos n) cs) ≡ min n (length cs)) × (right (negsuc n) cs ≡ [])

-- `mid(n, m)` is `substring(n, n + m)` where that is within the text
abbrev pub MidIsPart : Type 0
MidIsPart = (n m : ℕ) (cs : List ℕ) → n + m ≤ length cs → part (pos n) (pos (n + m)) cs ≡ Some (mid (pos n) (pos m) cs)

-- and `left(m)` of what stands behind the first n scalars
abbrev pub MidIsLeft : Type 0
MidIsLeft = (m : ℤ) (front back : List ℕ) → (mid (pos (length front)) m (front ++ back) ≡ left m back) × ((n : ℕ) → mid (pos (length front + n)) m front ≡ []) × ((n : ℕ) → mid (negsuc n) m back ≡ left m back)

-- ---- where a text occurs

-- a text is this one, then `ts`, then that one
abbrev pub Splits : List ℕ → List ℕ → List ℕ → List ℕ → Type 0
Splits cs front ts back = cs ≡ front ++ (ts ++ back)

-- `contains`: exactly where the text is some text, the other, and some text
abbrev pub ContainsSplits : Type 0
ContainsSplits = (ts cs : List ℕ) → (is_some (first_of ts cs) ≡ true) ↔ ((front : List ℕ) × (back : List ℕ) × Splits cs front ts back)

-- `startsWith` and `endsWith`
abbrev pub StartSplits : Type 0
StartSplits = (ts cs : List ℕ) → (begins ts cs ≡ true) ↔ ((back : List ℕ) × (cs ≡ ts ++ back))

abbrev pub EndSplits : Type 0
EndSplits = (ts cs : List ℕ) → (ends ts cs ≡ true) ↔ ((front : List ℕ) × (cs ≡ front ++ ts))

-- `indexOf`: what stands before the first occurrence is shorter than what stands before any other
abbrev pub IsFirst : List ℕ → List ℕ → ℕ → Type 0
IsFirst ts cs n = ((front : List ℕ) × (back : List ℕ) × Splits cs front ts back × (length front ≡ n)) × ((front back : List ℕ) → Splits cs front ts back → n ≤ length front)

abbrev pub FirstSplits : Type 0
FirstSplits = (ts cs : List ℕ) → MatchOption (first_of ts cs) ((front back : List ℕ) → Splits cs front ts back → ⊥) (IsFirst ts cs)

-- `lastIndexOf`: longer
abbrev pub IsLast : List ℕ → List ℕ → ℕ → Type 0
IsLast ts cs n = ((front : List ℕ) × (back : List ℕ) × Splits cs front ts back × (length front ≡ n)) × ((front back : List ℕ) → Splits cs front ts back → length front ≤ n)

abbrev pub LastSplits : Type 0
LastSplits = (ts cs : List ℕ) → MatchOption (last_of ts cs) ((front back : List ℕ) → Splits cs front ts back → ⊥) (IsLast ts cs)

-- `indexOf` with a place: what stands before the place is only counted
abbrev pub FirstFromCounts : Type 0
FirstFromCounts = (ts front cs : List ℕ) → first_from (length front) ts (front ++ cs) ≡ option_map (λ k. length front + k) (first_of ts cs)

-- and past the end is nothing
abbrev pub FirstFromEnds : Type 0
FirstFromEnds = (n : ℕ) (ts cs : List ℕ) → length cs < n → first_from n ts cs ≡ None

-- `substringBefore` and `substringAfter` stand round the first occurrence; where there is none they are all and nothing
abbrev pub BeforeAndAfter : Type 0
BeforeAndAfter = (ts cs : List ℕ) → MatchOption (first_of ts cs) ((before ts cs ≡ cs) × (after ts cs ≡ [])) (λ n. Splits cs (before ts cs) ts (after ts cs) × (length (before ts cs) ≡ n))

-- `removeStart` and `removeEnd` take away what is put on
abbrev pub StartGoes : Type 0
StartGoes = (ts cs : List ℕ) → without_start ts (ts ++ cs) ≡ cs

abbrev pub EndGoes : Type 0
EndGoes = (ts cs : List ℕ) → without_end ts (cs ++ ts) ≡ cs

-- and nothing where it isn't there
abbrev pub StartStays : Type 0
StartStays = (ts cs : List ℕ) → ((back : List ℕ) → cs ≡ ts ++ back → ⊥) → without_start ts cs ≡ cs

abbrev pub EndStays : Type 0
EndStays = (ts cs : List ℕ) → ((front : List ℕ) → cs ≡ front ++ ts → ⊥) → without_end ts cs ≡ cs

-- ---- all occurrences

-- `replace` puts the other text in the place of the first occurrence, and goes on behind it; `countMatches` counts it
abbrev pub ReplacedFromFirst : Type 0
ReplacedFromFirst = (t : ℕ) (ts us cs front back : List ℕ) → Splits cs front (t ∷ ts) back → first_of (t ∷ ts) cs ≡ Some (length front) →
    replace (t ∷ ts) us cs ≡ front ++ (us ++ replace (t ∷ ts) us back)

abbrev pub CountedFromFirst : Type 0
CountedFromFirst = (t : ℕ) (ts cs front back : List ℕ) → Splits cs front (t ∷ ts) back → first_of (t ∷ ts) cs ≡ Some (length front) →
    matches (t ∷ ts) cs ≡ 1 + matches (t ∷ ts) back

-- the empty text is not replaced and not counted
abbrev pub EmptyStays : Type 0
EmptyStays = (us cs : List ℕ) → (replace [] us cs ≡ cs) × (matches [] cs ≡ 0)

-- `replace` of a text by itself changes nothing
abbrev pub ReplacedByItself : Type 0
ReplacedByItself = (ts cs : List ℕ) → replace ts ts cs ≡ cs

-- nor does it where the text doesn't occur
abbrev pub ReplacedNowhere : Type 0
ReplacedNowhere = (ts us cs : List ℕ) → first_of ts cs ≡ None → replace ts us cs ≡ cs

-- `countMatches` is 0 exactly where a text that isn't empty doesn't occur
abbrev pub CountedNowhere : Type 0
CountedNowhere = (t : ℕ) (ts cs : List ℕ) → (matches (t ∷ ts) cs ≡ 0) ↔ (first_of (t ∷ ts) cs ≡ None)

-- `remove` takes away as many bytes as the counted occurrences have
abbrev pub RemovedSize : Type 0
RemovedSize = (ts cs : List ℕ) → length (encode_utf8_all (replace ts [] cs)) + matches ts cs * length (encode_utf8_all ts) ≡ length (encode_utf8_all cs)

-- ---- letters

-- `toLowerCase` and `toUpperCase`, of bytes: twice is once, and both are the same to a comparison without case
abbrev pub CaseFolds : Type 0
CaseFolds = (bs : List ℕ) → (map to_ascii_lowercase (map to_ascii_lowercase bs) ≡ map to_ascii_lowercase bs) × (map to_ascii_lowercase (map to_ascii_uppercase bs) ≡ map to_ascii_lowercase bs)

-- `capitalize` and `uncapitalize` change the case of the first letter alone
abbrev pub FirstCaseAlone : Type 0
FirstCaseAlone = (cs : List ℕ) →
    (map to_ascii_lowercase (first_by to_ascii_uppercase cs) ≡ map to_ascii_lowercase cs) × (drop 1 (first_by to_ascii_uppercase cs) ≡ drop 1 cs) ×
    (map to_ascii_lowercase (first_by to_ascii_lowercase cs) ≡ map to_ascii_lowercase cs) × (drop 1 (first_by to_ascii_lowercase cs) ≡ drop 1 cs)

-- they do change a letter of the other case, and nothing else
abbrev pub FirstIsLarge : Type 0
FirstIsLarge = (c : ℕ) (cs : List ℕ) →
    (IsInRange 97 122 c → first_by to_ascii_uppercase (c ∷ cs) ≡ (c - 32) ∷ cs) × ((IsInRange 97 122 c → ⊥) → first_by to_ascii_uppercase (c ∷ cs) ≡ c ∷ cs)

abbrev pub FirstIsSmall : Type 0
FirstIsSmall = (c : ℕ) (cs : List ℕ) →
    (IsInRange 65 90 c → first_by to_ascii_lowercase (c ∷ cs) ≡ (c + 32) ∷ cs) × ((IsInRange 65 90 c → ⊥) → first_by to_ascii_lowercase (c ∷ cs) ≡ c ∷ cs)

-- `equals` and `equalsIgnoreCase`, of bytes
abbrev pub EqualsIsSame : Type 0
EqualsIsSame = (s t : List ℕ) → (bytes_eq s t ≡ true) ↔ (s ≡ t)

abbrev pub EqualsBarCase : Type 0
EqualsBarCase = (s t : List ℕ) → (str_eq_ignore_ascii_case s t ≡ true) ↔ (map to_ascii_lowercase s ≡ map to_ascii_lowercase t)

-- `compareTo`, of bytes
abbrev pub ComparesInOrder : Type 0
ComparesInOrder = IsTotalOrder (slice_cmp nat_cmp)

-- `reverse` twice is the text
abbrev pub ReversedTwice : Type 0
ReversedTwice = (cs : List ℕ) → reverse (reverse cs) ≡ cs

-- ---- blanks

-- only scalars up to U+0020
abbrev pub AllLow : List ℕ → Type 0
AllLow cs = list_all (λ c. nat_le c 32) cs ≡ true

-- `trim` leaves out blanks and controls at both ends, and all of them
abbrev pub TrimsBothEnds : Type 0
TrimsBothEnds = (cs : List ℕ) → ((front : List ℕ) × (back : List ℕ) × Splits cs front (trimmed cs) back × AllLow front × AllLow back) × (without_low (trimmed cs) ≡ trimmed cs) × (without_low (reverse (trimmed cs)) ≡ reverse (trimmed cs))

-- `leftPad` and `rightPad`, of bytes: the text has at least so many scalars
abbrev pub PadsTo : Type 0
PadsTo = (n : ℕ) (bs : List ℕ) → IsUtf8 bs → (length (chars (left_pad (pos n) bs)) ≡ max n (length (chars bs))) × (length (chars (right_pad (pos n) bs)) ≡ max n (length (chars bs)))

-- `leftPad` puts blanks before the text, and `rightPad` behind it; a negative number changes nothing
abbrev pub PadsItsSide : Type 0
PadsItsSide = (n : ℕ) (bs : List ℕ) → (k : ℕ) × (left_pad (pos n) bs ≡ repeat k (codes " ") ++ bs) × (right_pad (pos n) bs ≡ bs ++ repeat k (codes " "))

abbrev pub PadsNothing : Type 0
PadsNothing = (n : ℕ) (bs : List ℕ) → (left_pad (negsuc n) bs ≡ bs) × (right_pad (negsuc n) bs ≡ bs) × (repeated (negsuc n) bs ≡ [])

-- `repeat`, of bytes
abbrev pub RepeatedSize : Type 0
RepeatedSize = (n : ℕ) (bs : List ℕ) → (length (repeated (pos n) bs) ≡ n * length bs) × (repeated (pos (suc n)) bs ≡ bs ++ repeated (pos n) bs)

-- `isNumeric` and `isBlank`: each scalar is one of those
abbrev pub NumericIsDigits : Type 0
NumericIsDigits = (cs : List ℕ) → (is_numeric cs ≡ true) ↔ ((0 < length cs) × EachIndex cs (λ k. is_ascii_digit (slice_index cs k) ≡ true))

abbrev pub BlankIsWhite : Type 0
BlankIsWhite = (cs : List ℕ) → (is_blank cs ≡ true) ↔ EachIndex cs (λ k. is_whitespace (slice_index cs k) ≡ true)
