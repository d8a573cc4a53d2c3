-- What the definitions of operators say together (docs/language.md, "Operators").
use Rattle.std.specs.Prelude.{◌≡◌, List}
use Rattle.apex_syntax.specs.declared.expr.BinaryOp.{BinaryOp}
use Rattle.class_tables.specs.declared.head.ClassHead.{ClassHead}
use Rattle.typed_values.specs.declared.typed.Kind.{Kind}
use Rattle.typed_values.specs.declared.typed.Kind.TheVariants.{Null}
use Rattle.typed_operations.specs.Judgements.{judge, is_refused}

-- `null` beside a value is refused on the right exactly where it is on the left
abbrev pub NullSides : Type 0
NullSides = (heads : List ClassHead) (kind : Kind) (op : BinaryOp) → is_refused (judge heads kind op Null) ≡ is_refused (judge heads Null op kind)
