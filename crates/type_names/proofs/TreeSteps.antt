-- The type of a tree, by the types in it.
use Rattle.std.proofs.Common.{◌≡◌, List, map, sym, ap, ◌∙◌}
use Rattle.apex_syntax.specs.declared.expr.TypeTree.{TypeTree}
use Rattle.apex_syntax.specs.declared.expr.TypeTree.TheFolds.{fold-roll-TypeTree, map-TypeTree}
use Rattle.apex_syntax.specs.declared.expr.TypeTree.TheViews.{out-TypeTree, roll-out-TypeTree}
use Rattle.type_names.specs.declared.fault.WalkFault.{WalkFault}
use Rattle.type_names.specs.declared.fault.WalkFault.TheVariants as Fault
use Rattle.type_names.specs.declared.head.TypeHead.{TypeHead}
use Rattle.type_names.specs.declared.names.PlacedType.{PlacedType}
use Rattle.static_types.specs.declared.kind.ValueType.{ValueType}
use Rattle.type_names.specs.TypeTrees.{Known, named, accepted, applied, listed, placed_of, type_step}
use Rattle.type_names.specs.Walks.{Walk, Gives, Fails, onward, all}

tree_out : (known : Known) (t : TypeTree) → placed_of known t ≡ type_step known (map-TypeTree TypeTree (Walk PlacedType) (placed_of known) (out-TypeTree t))
tree_out known t = ap (placed_of known) (sym (roll-out-TypeTree t)) ∙ fold-roll-TypeTree (Walk PlacedType) (type_step known) (out-TypeTree t)

abbrev pub head : Known → TypeTree → Walk TypeHead
head known t = accepted (named known (out-TypeTree t).name.name (out-TypeTree t).member) (out-TypeTree t).span.from

module _ (known : Known) (t : TypeTree) where
  abbrev finished : ValueType → Walk PlacedType
  finished kind = Gives (record { at = (out-TypeTree t).span.from; kind = listed (out-TypeTree t).arrays kind })

  abbrev applied_to : TypeHead → List PlacedType → Walk PlacedType
  applied_to h args = onward (applied h args (out-TypeTree t).span.from) finished

  abbrev with_args : List TypeTree → TypeHead → Walk PlacedType
  with_args xs h = onward (all (map (placed_of known) xs)) (applied_to h)

  abbrev whole : List TypeTree → Walk PlacedType
  whole xs = onward (head known t) (with_args xs)

  tree_is : (xs : List TypeTree) → xs ≡ (out-TypeTree t).args → placed_of known t ≡ whole xs
  tree_is xs same = tree_out known t ∙ ap whole (sym same)

  fail : {A : Type 0} (w : Walk A) (go : A → Walk PlacedType) (e : WalkFault) → Fails w e → Fails (onward w go) e
  fail w go (Fault.Wrong fault) f = ap (λ v. onward v go) f
  fail w go Fault.NoMemory f = f

  moved : (v w : Walk PlacedType) (e : WalkFault) → v ≡ w → Fails w e → Fails v e
  moved v w (Fault.Wrong fault) same f = same ∙ f
  moved v w Fault.NoMemory same f = f

  module _ (xs : List TypeTree) (same : xs ≡ (out-TypeTree t).args) (h : TypeHead) (is_head : head known t ≡ Gives h) where
    to_args : placed_of known t ≡ with_args xs h
    to_args = tree_is xs same ∙ ap (λ v. onward v (with_args xs)) is_head

    pub args_fail : (e : WalkFault) → Fails (all (map (placed_of known) xs)) e → Fails (placed_of known t) e
    args_fail e f = moved (placed_of known t) (with_args xs h) e to_args (fail (all (map (placed_of known) xs)) (applied_to h) e f)

    module _ (args : List PlacedType) (are : all (map (placed_of known) xs) ≡ Gives args) where
      to_whole : placed_of known t ≡ applied_to h args
      to_whole = to_args ∙ ap (λ v. onward v (applied_to h)) are

      pub kind_fails : (e : WalkFault) → Fails (applied h args (out-TypeTree t).span.from) e → Fails (placed_of known t) e
      kind_fails e f = moved (placed_of known t) (applied_to h args) e to_whole (fail (applied h args (out-TypeTree t).span.from) finished e f)

      pub kind_is : (kind : ValueType) → applied h args (out-TypeTree t).span.from ≡ Gives kind → placed_of known t ≡ finished kind
      kind_is kind is = to_whole ∙ ap (λ v. onward v finished) is
