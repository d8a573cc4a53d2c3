-- Values of constants (docs/language.md, "What code does").
use Rattle.std.specs.Prelude.{pos, ◌^◌, nat_lt, Bool, true}
use Rattle.std.specs.Str.{is_utf8}
use Rattle.apex_num.specs.declared.cell.Cell.{Cell}
use Rattle.apex_num.specs.declared.cell.Cell.TheVariants as C
use Rattle.typed_program.specs.declared.expr.Constant.{Constant}
use Rattle.typed_program.specs.declared.expr.Constant.TheVariants as K
use Rattle.txn_heap.specs.declared.thing.Value.{Value}
use Rattle.txn_heap.specs.declared.thing.Value.TheVariants.{Plain}

abbrev pub null : Value
null = Plain C.Null

abbrev pub cell_of : Constant → Cell
cell_of K.Null = C.Null
cell_of (K.Bool b) = C.Bool b
cell_of (K.Whole n) = C.Whole n
cell_of (K.Decimal n) = C.Num (pos n)
cell_of (K.Text t) = C.Text t

-- whether there is such a cell: texts are UTF-8, and Decimals have 19 digits at most
abbrev pub is_cell : Constant → Bool
is_cell (K.Decimal n) = nat_lt n (10 ^ 19)
is_cell (K.Text t) = is_utf8 t
is_cell _ = true
