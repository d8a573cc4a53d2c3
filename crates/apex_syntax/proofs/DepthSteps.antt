-- The depth of a tree, by the trees in it.
use Rattle.std.specs.Prelude.{◌≡◌, ℕ, max, List, map}
use Rattle.std.proofs.Common.{sym, ap, ◌∙◌}
use Rattle.apex_syntax.specs.declared.expr.TypeTree.{TypeTree}
use Rattle.apex_syntax.specs.declared.expr.TypeTree.TheFolds.{fold-roll-TypeTree, map-TypeTree}
use Rattle.apex_syntax.specs.declared.expr.TypeTree.TheViews.{out-TypeTree, roll-out-TypeTree}
use Rattle.apex_syntax.specs.Depths.{type_depth, type_step, args_open, arrays_open}

type_out : (t : TypeTree) → type_depth t ≡ type_step (map-TypeTree TypeTree ℕ type_depth (out-TypeTree t))
type_out t = ap type_depth (sym (roll-out-TypeTree t)) ∙ fold-roll-TypeTree ℕ type_step (out-TypeTree t)

pub type_is : (t : TypeTree) (xs : List TypeTree) (r a b : ℕ) → r ≡ max a b → a ≡ args_open (map type_depth xs) → xs ≡ (out-TypeTree t).args → b ≡ arrays_open (out-TypeTree t).arrays → r ≡ type_depth t
type_is t xs r a b e f g h = e ∙ rw (f, h, g) (sym (type_out t))
