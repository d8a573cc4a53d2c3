-- The code of what expressions consist of, which `expr_code` goes through.
use Rattle.std.specs.Prelude.{ℕ, List, map}
use Rattle.typed_program.specs.declared.expr.TypedExpr.{TypedExpr}
use Rattle.typed_program.specs.declared.expr.TypedItem.{TypedItem}
use Rattle.typed_program.specs.declared.expr.TypedNew.{TypedNew}
use Rattle.typed_program.specs.declared.expr.TypedOperand.{TypedOperand}
use Rattle.typed_program.specs.declared.expr.TypedPair.{TypedPair}
use Rattle.typed_program.specs.declared.expr.TypedPart.{TypedPart}
use Rattle.typed_program.specs.declared.expr.TypedPlace.{TypedPlace}
use Rattle.query_records.specs.declared.bind.BindKind.{BindKind}
use Rattle.query_records.specs.declared.bind.BindKind.TheVariants.{One, Many}
use Rattle.typed_program.specs.declared.expr.TypedBind.{TypedBind}
use Rattle.typed_program.specs.declared.expr.TypedBind.TheOpen.{TypedBind-F}
use Rattle.typed_program.specs.declared.expr.TypedBind.TheViews.{out-TypedBind}
use Rattle.typed_program.specs.declared.expr.TypedBind.TheFolds.{fold-TypedBind, fold-TypedNew, fold-TypedPart, fold-TypedPlace, fold-TypedItem, fold-TypedOperand, fold-TypedPair}
use Rattle.typed_program.specs.declared.program.Program.{Program}
use Rattle.typed_program.specs.declared.stmt.TypedCatch.{TypedCatch}
use Rattle.typed_program.specs.declared.stmt.TypedStmt.TheFolds.{fold-TypedCatch}
use Rattle.stack_code.specs.Code.{Given, Instrs, PlaceCode, joined, ClauseCode, bind_step, expr_step, new_step, part_step, place_step, item_step, operand_step, pair_step, stmt_step, catch_step}

-- how the value of a bind is given
abbrev pub kind_in : TypedBind-F TypedBind TypedExpr TypedNew TypedPart TypedPlace TypedItem TypedOperand TypedPair → BindKind
kind_in (TypedBind-F.One e) = One
kind_in (TypedBind-F.Many how e) = Many how

abbrev pub kind_of : TypedBind → BindKind
kind_of b = kind_in (out-TypedBind b)

abbrev pub binds_code : List Given → Instrs
binds_code binds = joined (map (λ (b : Given). b.1) binds)

abbrev pub kinds_of : List Given → List BindKind
kinds_of binds = map (λ (b : Given). b.0) binds

module _ (program : Program) where
  abbrev pub bind_code : TypedBind → Given
  bind_code = fold-TypedBind Given Instrs Instrs Instrs PlaceCode Instrs Instrs (ℕ × Instrs) bind_step expr_step new_step (part_step program) (place_step program) item_step operand_step pair_step

  abbrev pub new_code : TypedNew → Instrs
  new_code = fold-TypedNew Given Instrs Instrs Instrs PlaceCode Instrs Instrs (ℕ × Instrs) bind_step expr_step new_step (part_step program) (place_step program) item_step operand_step pair_step

  abbrev pub part_code : TypedPart → Instrs
  part_code = fold-TypedPart Given Instrs Instrs Instrs PlaceCode Instrs Instrs (ℕ × Instrs) bind_step expr_step new_step (part_step program) (place_step program) item_step operand_step pair_step

  abbrev pub place_code : TypedPlace → PlaceCode
  place_code = fold-TypedPlace Given Instrs Instrs Instrs PlaceCode Instrs Instrs (ℕ × Instrs) bind_step expr_step new_step (part_step program) (place_step program) item_step operand_step pair_step

  abbrev pub item_code : TypedItem → Instrs
  item_code = fold-TypedItem Given Instrs Instrs Instrs PlaceCode Instrs Instrs (ℕ × Instrs) bind_step expr_step new_step (part_step program) (place_step program) item_step operand_step pair_step

  abbrev pub operand_code : TypedOperand → Instrs
  operand_code = fold-TypedOperand Given Instrs Instrs Instrs PlaceCode Instrs Instrs (ℕ × Instrs) bind_step expr_step new_step (part_step program) (place_step program) item_step operand_step pair_step

  abbrev pub pair_code : TypedPair → ℕ × Instrs
  pair_code = fold-TypedPair Given Instrs Instrs Instrs PlaceCode Instrs Instrs (ℕ × Instrs) bind_step expr_step new_step (part_step program) (place_step program) item_step operand_step pair_step

  abbrev pub clause_code : TypedCatch → ClauseCode
  clause_code = fold-TypedCatch Instrs ClauseCode (stmt_step program) (catch_step program)
