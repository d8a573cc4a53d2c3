-- Values that are written in conditions (docs/language.md, "Queries in code").
use Rattle.std.specs.Prelude.{ℕ, ℤ, pos, neg_ℤ, ◌*ℤ◌, Bool, cond, List, Option, None, Some}
use Rattle.std.specs.Str.{is_utf8}
use Rattle.apex_num.specs.declared.cell.Cell.{Cell}
use Rattle.apex_num.specs.declared.cell.Cell.TheVariants as C
use Rattle.apex_rows.specs.declared.query.Term.{Term}
use Rattle.apex_rows.specs.declared.query.Term.TheVariants.{Given}
use Rattle.fault_words.specs.declared.fault.FaultWord.TheVariants.{BadQuery}
use Rattle.apex_syntax.specs.declared.query.NumberTree.{NumberTree}
use Rattle.apex_syntax.specs.declared.query.NumberTree.TheVariants as N
use Rattle.apex_num.specs.Ids.{id_value}
use Rattle.number_methods.specs.Values.{decimal_fits}
use Rattle.static_types.specs.declared.kind.Primitive.{Primitive}
use Rattle.static_types.specs.declared.kind.Primitive.TheVariants as P
use Rattle.type_names.specs.Walks.{Walk, Gives, wrong}

-- ---- numbers, in millionths

abbrev pub unsigned : NumberTree → ℤ
unsigned (N.Integer n) = n *ℤ pos 1000000
unsigned (N.Long n) = n *ℤ pos 1000000
unsigned (N.Decimal c) = pos c

abbrev pub millionths : Bool → NumberTree → ℤ
millionths minus n = cond minus (neg_ℤ (unsigned n)) (unsigned n)

abbrev pub decimal_of : ℤ → Option ℤ
decimal_of c = cond (decimal_fits c) (Some c) None

abbrev pub decimal_cell : Option ℤ → Option Cell
decimal_cell (Some c) = Some (C.Num c)
decimal_cell None = None

abbrev pub number_cell : Primitive → Bool → NumberTree → Option Cell
number_cell P.Decimal minus n = decimal_cell (decimal_of (millionths minus n))
number_cell _ minus n = None

-- ---- texts, which may have to become Ids

abbrev pub id_of : List ℕ → Option (List ℕ)
id_of bytes = id_value bytes

abbrev pub id_cell : Option (List ℕ) → Option Cell
id_cell (Some id) = Some (C.Id id)
id_cell None = None

abbrev pub text_of : List ℕ → Option (List ℕ)
text_of bytes = cond (is_utf8 bytes) (Some bytes) None

abbrev pub string_cell : Option (List ℕ) → Option Cell
string_cell (Some text) = Some (C.Text text)
string_cell None = None

abbrev pub text_cell : Primitive → List ℕ → Option Cell
text_cell P.String bytes = string_cell (text_of bytes)
text_cell P.Id bytes = id_cell (id_of bytes)
text_cell _ bytes = None

-- ---- dates, moments and truth values

abbrev pub day_cell : Primitive → ℤ → Option Cell
day_cell P.Date day = Some (C.Day day)
day_cell _ day = None

abbrev pub moment_cell : Primitive → ℤ → Option Cell
moment_cell P.Datetime second = Some (C.Moment second)
moment_cell _ second = None

abbrev pub truth_cell : Primitive → Bool → Option Cell
truth_cell P.Boolean truth = Some (C.Bool truth)
truth_cell _ truth = None

abbrev pub given : Option Cell → ℕ → Walk Term
given (Some cell) at = Gives (Given cell)
given None at = wrong BadQuery at
