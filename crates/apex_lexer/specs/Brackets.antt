-- Between which brackets a place of a text stands (docs/formats.md, "Tokens").
use Rattle.std.specs.Prelude.{ℕ, suc, ◌-◌, ◌&&◌, nat_lt, eqb, Bool, cond, List, [], ◌∷◌, take, drop}
use Rattle.apex_lexer.specs.declared.brackets.Bracket.{Bracket}
use Rattle.apex_lexer.specs.declared.brackets.Bracket.TheVariants.{Opens, Closes, Neither}
use Rattle.apex_lexer.specs.declared.brackets.Part.{Part}
use Rattle.apex_lexer.specs.declared.brackets.Part.TheVariants.{Code, Slash, Line, Block, Star, Quote, Escape}

-- the part of a text that a byte leads to
abbrev pub from_code : ℕ → Part
from_code b = cond (eqb b 39) Quote (cond (eqb b 47) Slash Code)

abbrev pub next : Part → ℕ → Part
next Code b = from_code b
next Slash b = cond (eqb b 47) Line (cond (eqb b 42) Block (from_code b))
next Line b = cond (eqb b 10) Code Line
next Block b = cond (eqb b 42) Star Block
next Star b = cond (eqb b 47) Code (cond (eqb b 42) Star Block)
next Quote b = cond (eqb b 39) Code (cond (eqb b 10) Code (cond (eqb b 92) Escape Quote))
next Escape b = cond (eqb b 10) Code Quote

-- the part that stands behind bytes
abbrev pub part_after : Part → List ℕ → Part
part_after part [] = part
part_after part (b ∷ bs) = part_after (next part b) bs

-- a byte of code as a bracket
abbrev pub code_bracket : ℕ → Bracket
code_bracket b = cond (eqb b 91) Opens (cond (eqb b 93) Closes Neither)

-- brackets in comments and text literals don't count
abbrev pub bracket : Part → ℕ → Bracket
bracket Code b = code_bracket b
bracket Slash b = code_bracket b
bracket _ b = Neither

abbrev pub opened_by : Bracket → ℕ → ℕ
opened_by Opens depth = suc depth
opened_by Closes depth = depth - 1
opened_by Neither depth = depth

-- how many brackets are open behind bytes, where so many were open before them
abbrev pub opened : Part → ℕ → List ℕ → ℕ
opened part depth [] = depth
opened part depth (b ∷ bs) = opened (next part b) (opened_by (bracket part b) depth) bs

abbrev pub closing_by : Bracket → ℕ → ℕ
closing_by Opens closing = closing - 1
closing_by Closes closing = suc closing
closing_by Neither closing = closing

-- how many closing brackets among the bytes close brackets that stand before them
abbrev pub closing : Part → List ℕ → ℕ
closing part [] = 0
closing part (b ∷ bs) = closing_by (bracket part b) (closing (next part b) bs)

-- whether a place stands between a bracket and the one that closes it
abbrev pub inside : List ℕ → ℕ → Bool
inside text at = nat_lt 0 (opened Code 0 (take at text)) && nat_lt 0 (closing (part_after Code (take at text)) (drop at text))
