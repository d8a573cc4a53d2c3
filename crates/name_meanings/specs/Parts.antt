-- What goes on with a value: parts of one path stand in one list.
use Rattle.std.specs.Prelude.{List, [], ◌∷◌, ◌++◌}
use Rattle.typed_program.specs.declared.expr.TypedBind.{TypedBind}
use Rattle.typed_program.specs.declared.expr.TypedExpr.{TypedExpr}
use Rattle.typed_program.specs.declared.expr.TypedBind.TheOpen.{TypedExpr-F}
use Rattle.typed_program.specs.declared.expr.TypedExpr.TheVariants.{Postfix}
use Rattle.typed_program.specs.declared.expr.TypedBind.TheViews.{out-TypedExpr}
use Rattle.typed_program.specs.declared.expr.TypedItem.{TypedItem}
use Rattle.typed_program.specs.declared.expr.TypedNew.{TypedNew}
use Rattle.typed_program.specs.declared.expr.TypedOperand.{TypedOperand}
use Rattle.typed_program.specs.declared.expr.TypedPair.{TypedPair}
use Rattle.typed_program.specs.declared.expr.TypedPart.{TypedPart}
use Rattle.typed_program.specs.declared.expr.TypedPlace.{TypedPlace}

abbrev pub first_part : TypedExpr → TypedPart → TypedExpr
first_part head part = Postfix head (part ∷ [])

abbrev pub next_part : TypedExpr → List TypedPart → TypedPart → TypedExpr
next_part head parts part = Postfix head (parts ++ part ∷ [])

abbrev pub grown : TypedExpr → TypedExpr-F TypedBind TypedExpr TypedNew TypedPart TypedPlace TypedItem TypedOperand TypedPair → TypedPart → TypedExpr
grown tree (TypedExpr-F.Postfix head parts) part = next_part head parts part
grown tree _ part = first_part tree part

abbrev pub with_part : TypedExpr → TypedPart → TypedExpr
with_part tree part = grown tree (out-TypedExpr tree) part
