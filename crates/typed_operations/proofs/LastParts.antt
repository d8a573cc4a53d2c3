-- The last part of a path, and those before it.
use Rattle.std.proofs.Common.{◌≡◌, ◌-◌, List, [], ◌∷◌, ◌++◌, length, take, Option, None, Some, refl, sym, ap, ◌∙◌, arith}
use Rattle.std.specs.List.{last_or}
use Rattle.std.proofs.Math.Seq.{take-append_seam}
use Rattle.std.proofs.lemmas.List.{length-append}
use Rattle.typed_operations.specs.Places.{reached, place_by, place_in, place_along}
use Rattle.typed_program.specs.declared.expr.TypedBind.TheViews.{out-TypedPart}
use Rattle.typed_program.specs.declared.expr.TypedExpr.{TypedExpr}
use Rattle.typed_program.specs.declared.expr.TypedPart.{TypedPart}

last_is : (o : Option TypedPart) (front : List TypedPart) (last : TypedPart) → last_or o (front ++ last ∷ []) ≡ Some last
last_is o [] last = refl
last_is o (p ∷ ps) last = last_is (Some p) ps last

front_is : (front : List TypedPart) (last : TypedPart) → take (length (front ++ last ∷ []) - 1) (front ++ last ∷ []) ≡ front
front_is front last =
    let n : length (front ++ last ∷ []) - 1 ≡ length front = omega (arith, length-append front (last ∷ [])) in
    ap (λ k. take k (front ++ last ∷ [])) n ∙ take-append_seam front (last ∷ [])

pub along : (head : TypedExpr) (parts front : List TypedPart) (last : TypedPart) → parts ≡ front ++ last ∷ [] → place_in (reached head front) (out-TypedPart last) ≡ place_along head parts
along head parts front last e =
    ap (λ l. place_by (reached head l) (Some last)) (sym (front_is front last))
    ∙ ap (λ o. place_by (reached head (take (length (front ++ last ∷ []) - 1) (front ++ last ∷ []))) o) (sym (last_is None front last))
    ∙ ap (place_along head) (sym e)

pub along_none : (head : TypedExpr) (parts : List TypedPart) → parts ≡ [] → None ≡ place_along head parts
along_none head parts e = ap (place_along head) (sym e)
