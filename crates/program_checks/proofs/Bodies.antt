-- The bodies of classes: the initial values of fields and statics, methods and constructors.
use Rattle.std.proofs.Common.{ℕ, zero, suc, ◌+◌, ◌≤◌, Bool, true, false, List, [], ◌∷◌, ◌++◌, length, replicate, Option, None, Some, refl, length-append, arith}
use Rattle.apex_meaning.specs.Classes.{and_fields, field_place, implied_of, class_at, most, no_starts, own_starts, Starts, starts, starts_by, starts_within}
use Rattle.typed_program.specs.declared.expr.Constructor.{Constructor}
use Rattle.typed_program.specs.declared.expr.Constructor.TheVariants as K
use Rattle.typed_program.specs.declared.expr.TypedExpr.{TypedExpr}
use Rattle.typed_program.specs.declared.program.Program.{Program}
use Rattle.typed_program.specs.declared.stmt.TypedStmt.{TypedStmt}
use Rattle.typed_program.specs.declared.unit.ImpliedCall.{ImpliedCall}
use Rattle.typed_program.specs.declared.unit.ParentCall.{ParentCall}
use Rattle.typed_program.specs.declared.unit.ParentCall.TheVariants as P
use Rattle.typed_program.specs.declared.unit.TypedConstructor.{TypedConstructor}
use Rattle.typed_program.specs.declared.unit.TypedField.{TypedField}
use Rattle.stack_code.specs.declared.code.Instr.TheVariants as I
use Rattle.stack_code.specs.Checked.{most_begun}
use Rattle.stack_code.specs.Code.{Instrs, expr_code, exprs_code, field_code, fields_code, static_code, statics_code, starts_code, construct_code, own_code, parent_code, constructor_code, method_code, block_code}
use Rattle.program_checks.proofs.Pieces.{Closed, closed_nil, closed_append, closed_cons, closed_one, closed_then, closed_pops, closed_map}
use Rattle.program_checks.proofs.Expressions.{expr_closed}
use Rattle.program_checks.proofs.Statements.{block_closed}

-- ---- how many classes get initial values of fields at once

by_short : (k : Constructor) (c n : ℕ) (ss : Starts) → length ss.fields ≤ n → length (starts_by k c ss).fields ≤ suc n
by_short (K.Declared k) c n ss h = omega arith
by_short K.Implied c n ss h = omega (arith, length-append ss.fields (c ∷ []))
by_short K.Exception c n ss h = omega (arith, length-append ss.fields (c ∷ []))

starts_short : (n : ℕ) (program : Program) (call : Option ImpliedCall) → length (starts_within n program call).fields ≤ n
starts_short zero program call = omega arith
starts_short (suc n) program None = omega arith
starts_short (suc n) program (Some i) =
    by_short i.constructor i.class n (starts_within n program (implied_of (class_at program i.class))) (starts_short n program (implied_of (class_at program i.class)))

and_short : (n c : ℕ) (ss : Starts) → length ss.fields ≤ n → length (and_fields ss c).fields ≤ n + 1
and_short n c ss h = omega (arith, length-append ss.fields (c ∷ []))

pub own_short : (program : Program) (c : ℕ) → length (own_starts program c).fields ≤ most_begun
own_short program c = and_short most c (starts program (implied_of (class_at program c))) (starts_short most program (implied_of (class_at program c)))

-- ---- methods and initial values

module _ (program : Program) where
  field_closed : (c n : ℕ) (static : Bool) (v : Option TypedExpr) → Closed false (field_code program c n static v)
  field_closed c n true None = closed_nil false
  field_closed c n true (Some e) = closed_nil false
  field_closed c n false None = closed_nil false
  field_closed c n false (Some e) = closed_then false (expr_code program e) (I.SetOwn (field_place program c n)) (λ code pc. tt) (expr_closed program false e)

  pub fields_closed : (c n : ℕ) (fs : List TypedField) → Closed false (fields_code program c n fs)
  fields_closed c n [] = closed_nil false
  fields_closed c n (f ∷ fs) = closed_append false (field_code program c n f.is_static f.value) (fields_code program c (suc n) fs) (field_closed c n f.is_static f.value) (fields_closed c (suc n) fs)

  static_closed : (c n : ℕ) (static : Bool) (v : Option TypedExpr) → Closed false (static_code program c n static v)
  static_closed c n true None = closed_nil false
  static_closed c n true (Some e) = closed_then false (expr_code program e) (I.SetStatic c n) (λ code pc. tt) (expr_closed program false e)
  static_closed c n false None = closed_nil false
  static_closed c n false (Some e) = closed_nil false

  pub statics_closed : (c n : ℕ) (fs : List TypedField) → Closed false (statics_code program c n fs)
  statics_closed c n [] = closed_nil false
  statics_closed c n (f ∷ fs) = closed_append false (static_code program c n f.is_static f.value) (statics_code program c (suc n) fs) (static_closed c n f.is_static f.value) (statics_closed c (suc n) fs)

  pub method_closed : (body : Option (List TypedStmt)) → Closed false (method_code program body)
  method_closed None = closed_nil false
  method_closed (Some stmts) = block_closed program false stmts

  -- ---- constructors

  begin_closed : (ss : Starts) → length ss.fields ≤ most_begun → Closed true (I.Begin (starts_code program ss) ∷ [])
  begin_closed ss h = closed_one true (I.Begin (starts_code program ss)) (λ code pc. (refl, h))

  construct_closed : (c : ℕ) (k : Constructor) (n : ℕ) → Closed true (construct_code program c k n)
  construct_closed c (K.Declared k) n = closed_one true (I.Construct c k n) (λ code pc. tt)
  construct_closed c K.Implied n = closed_append true (replicate n I.Pop) (I.Begin (starts_code program (own_starts program c)) ∷ []) (closed_pops true n) (begin_closed (own_starts program c) (own_short program c))
  construct_closed c K.Exception n = closed_append true (I.Begin (starts_code program (own_starts program c)) ∷ []) (I.MessageThis n ∷ []) (begin_closed (own_starts program c) (own_short program c)) (closed_one true (I.MessageThis n) (λ code pc. tt))

  own_closed : (ss : Starts) (c : ℕ) → length ss.fields ≤ most → Closed true (own_code program ss c ∷ [])
  own_closed ss c h = begin_closed (and_fields ss c) (and_short most c ss h)

  none_short : length no_starts.fields ≤ most
  none_short = omega arith

  exprs_closed : (es : List TypedExpr) → Closed true (exprs_code program es)
  exprs_closed es = closed_map true (expr_code program) (expr_closed program true) es

  parent_closed : (c : ℕ) (p : ParentCall) → Closed true (parent_code program c p)
  parent_closed c P.Nothing = own_closed no_starts c none_short
  parent_closed c (P.Implied i) = own_closed (starts program (Some i)) c (starts_short most program (Some i))
  parent_closed c (P.Super p k es) =
      let own : Instrs = own_code program no_starts c ∷ [] in
      closed_cons true I.Step (exprs_code program es ++ (construct_code program p k (length es) ++ own)) (λ code pc. tt)
      (closed_append true (exprs_code program es) (construct_code program p k (length es) ++ own) (exprs_closed es)
      (closed_append true (construct_code program p k (length es)) own (construct_closed p k (length es)) (own_closed no_starts c none_short)))
  parent_closed c (P.Exception es) =
      let own : Instrs = own_code program no_starts c ∷ [] in
      closed_cons true I.Step (exprs_code program es ++ I.MessageThis (length es) ∷ own) (λ code pc. tt)
      (closed_append true (exprs_code program es) (I.MessageThis (length es) ∷ own) (exprs_closed es)
      (closed_cons true (I.MessageThis (length es)) own (λ code pc. tt) (own_closed no_starts c none_short)))
  parent_closed c (P.This k es) =
      closed_cons true I.Step (exprs_code program es ++ construct_code program c k (length es)) (λ code pc. tt)
      (closed_append true (exprs_code program es) (construct_code program c k (length es)) (exprs_closed es) (construct_closed c k (length es)))

  pub constructor_closed : (c : ℕ) (k : TypedConstructor) → Closed true (constructor_code program c k)
  constructor_closed c k = closed_append true (parent_code program c k.parent) (block_code program k.stmts) (parent_closed c k.parent) (block_closed program true k.stmts)
