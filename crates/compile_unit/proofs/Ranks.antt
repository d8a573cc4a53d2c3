-- Triggers in the order of their folded names.
use Rattle.std.specs.Prelude.{◌≡◌, ℕ, List, [], ◌∷◌, map}
use Rattle.std.specs.Cmp.{IsTotalOrder}
use Rattle.std.specs.declared.cmp.Ordering.{Ordering}
use Rattle.std.specs.declared.cmp.Ordering.TheVariants.{Less, Equal, Greater}
use Rattle.std.proofs.Common.{refl, ap, sym, ◌∙◌}
use Rattle.std.proofs.lemmas.Cmp.{nat_list_cmp_total, on_total}
use Rattle.query_rows.specs.Orders.{placed_by, placed_in, sorted_in}
use Rattle.compile_unit.specs.declared.firings.Ranked.{Ranked}
use Rattle.apex_meaning.specs.Firings.{by_name}
use Rattle.compile_unit.specs.Ranks.{numbered_of, ranks_order}

pub ranks_total : IsTotalOrder ranks_order
ranks_total = on_total (λ (r : Ranked). r.trigger.now.folded) nat_list_cmp_total

-- what is sorted by the images of its elements, has the sorted images
module _ {A B : Type 0} (f : A → B) (order : B → B → Ordering) where
  abbrev under : A → A → Ordering
  under x y = order (f x) (f y)

  placed_map : (x : A) (ys : List A) → map f (placed_in under x ys) ≡ placed_in order (f x) (map f ys)
  placed_map x [] = refl
  placed_map x (y ∷ ys) = by (order (f x) (f y)) (placed_map x ys) where
    by : (o : Ordering) → map f (placed_in under x ys) ≡ placed_in order (f x) (map f ys) →
        map f (placed_by o x y ys (placed_in under x ys)) ≡ placed_by o (f x) (f y) (map f ys) (placed_in order (f x) (map f ys))
    by Less h = refl
    by Equal h = refl
    by Greater h = ap (λ (l : List B). f y ∷ l) h

  pub sorted_map : (xs : List A) → map f (sorted_in under xs) ≡ sorted_in order (map f xs)
  sorted_map [] = refl
  sorted_map (x ∷ xs) = placed_map x (sorted_in under xs) ∙ ap (placed_in order (f x)) (sorted_map xs)

pub in_order : (triggers : List Ranked) → map numbered_of (sorted_in ranks_order triggers) ≡ sorted_in by_name (map numbered_of triggers)
in_order triggers = sorted_map numbered_of by_name triggers
