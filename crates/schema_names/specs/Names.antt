-- Names in a schema (docs/platform.md, "Schemas"): they are compared without the case of ASCII letters.
use Rattle.std.specs.Prelude.{ℕ, ◌+◌, ◌&&◌, ◌||◌, not, nat_lt, eqb, Bool, false, cond, List, [], ◌∷◌, codes, bytes_eq, Option, None, Some}
use Rattle.std.specs.List.{list_all, list_any}
use Rattle.apex_text.specs.Fold.{folded}

abbrev pub is_letter : ℕ → Bool
is_letter b = (nat_lt 64 b && nat_lt b 91) || (nat_lt 96 b && nat_lt b 123)

abbrev pub is_digit : ℕ → Bool
is_digit b = nat_lt 47 b && nat_lt b 58

-- a letter, a digit or `_`
abbrev pub is_word_byte : ℕ → Bool
is_word_byte b = is_letter b || is_digit b || eqb b 95

-- a letter, and letters, digits and `_` behind it
abbrev pub is_identifier : List ℕ → Bool
is_identifier [] = false
is_identifier (b ∷ bs) = is_letter b && list_all is_word_byte bs

-- the words that are reserved everywhere (docs/formats.md, "Tokens")
abbrev pub keywords : List (List ℕ)
keywords =
    codes "abstract" ∷ codes "break" ∷ codes "catch" ∷ codes "class" ∷ codes "continue" ∷ codes "delete" ∷ codes "do" ∷ codes "else" ∷
    codes "extends" ∷ codes "false" ∷ codes "final" ∷ codes "finally" ∷ codes "for" ∷ codes "global" ∷ codes "if" ∷ codes "implements" ∷
    codes "insert" ∷ codes "interface" ∷ codes "new" ∷ codes "null" ∷ codes "override" ∷ codes "private" ∷ codes "protected" ∷ codes "public" ∷
    codes "return" ∷ codes "static" ∷ codes "super" ∷ codes "this" ∷ codes "throw" ∷ codes "true" ∷ codes "try" ∷ codes "update" ∷
    codes "upsert" ∷ codes "virtual" ∷ codes "void" ∷ codes "while" ∷ []

-- one of these names is this one
abbrev pub has : List (List ℕ) → List ℕ → Bool
has names name = list_any (λ n. bytes_eq n name) names

-- no identifier, or a keyword
abbrev pub is_bad_name : List ℕ → Bool
is_bad_name name = not (is_identifier name) || has keywords (folded name)

abbrev pub one_more : Option ℕ → Option ℕ
one_more None = None
one_more (Some i) = Some (i + 1)

-- the place of the first of these names that is this one
abbrev pub place_of : List (List ℕ) → List ℕ → Option ℕ
place_of [] name = None
place_of (n ∷ ns) name = cond (bytes_eq n name) (Some 0) (one_more (place_of ns name))

-- what is there, or a place where a name is the one that stands there
abbrev pub or_at : Option ℕ → Bool → ℕ → Option ℕ
or_at (Some i) same at = Some i
or_at None same at = cond same (Some at) None
