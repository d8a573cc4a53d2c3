-- What a text literal stands for (docs/formats.md, "Tokens").
use Rattle.std.specs.Prelude.{ℕ, ◌-◌, List, [], ◌∷◌, Bool, true, false, length, take, drop, cond, eqb}

-- the byte of an escape: \n, \t, \r, \b and \f are controls, any other character is itself
abbrev pub escape : ℕ → ℕ
escape b = cond (eqb b 110) 10 (cond (eqb b 116) 9 (cond (eqb b 114) 13 (cond (eqb b 98) 8 (cond (eqb b 102) 12 b))))

-- the bytes that these stand for; the mark says that a backslash stands before them
abbrev pub said : Bool → List ℕ → List ℕ
said escaped [] = []
said true (b ∷ bs) = escape b ∷ said false bs
said false (b ∷ bs) = cond (eqb b 92) (said true bs) (b ∷ said false bs)

-- what stands between the quotes
abbrev pub between_quotes : List ℕ → List ℕ
between_quotes text = take (length text - 2) (drop 1 text)

abbrev pub literal_bytes : List ℕ → List ℕ
literal_bytes text = said false (between_quotes text)
