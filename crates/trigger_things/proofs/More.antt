-- One record more.
use Rattle.std.proofs.Common.{◌≡◌, ℕ, suc, ◌+◌, List, [], ◌∷◌, ◌++◌, length, ap, sym, ◌∙◌, append_assoc, length-append, arith}
use Rattle.apex_num.specs.declared.cell.Cell.{Cell}
use Rattle.apex_rows.specs.declared.row.Row.{Row}
use Rattle.txn_heap.specs.declared.thing.Guard.{Guard}
use Rattle.txn_heap.specs.declared.thing.Thing.{Thing}
use Rattle.txn_heap.specs.declared.thing.Value.{Value}
use Rattle.trigger_things.specs.Things.{by_id, listed_from, records}

pub more_things : (guard : Guard) (row : Row) (rows was : List Row) (before after all : List Thing) → was ≡ row ∷ rows → after ≡ before ++ records guard (row ∷ []) →
    before ++ records guard was ≡ all → after ++ records guard rows ≡ all
more_things guard row rows was before after all first is e =
    ap (λ (ts : List Thing). ts ++ records guard rows) is ∙ append_assoc before (records guard (row ∷ [])) (records guard rows) ∙ ap (λ rs. before ++ records guard rs) (sym first) ∙ e

two_more : (guard : Guard) (row : Row) (before after : List Thing) → after ≡ before ++ records guard (row ∷ []) → length after ≡ suc (suc (length before))
two_more guard row before after is = let e : length after ≡ length before + 2 = ap length is ∙ length-append before (records guard (row ∷ [])) in omega (arith, e)

pub more_listed : (guard : Guard) (row : Row) (rows was : List Row) (heap longer : List Thing) (before after all : List Value) → was ≡ row ∷ rows → longer ≡ heap ++ records guard (row ∷ []) → after ≡ before ++ listed_from (length heap) (row ∷ []) →
    before ++ listed_from (length heap) was ≡ all → after ++ listed_from (length longer) rows ≡ all
more_listed guard row rows was heap longer before after all first made is e =
    ap (λ (vs : List Value). vs ++ listed_from (length longer) rows) is ∙ append_assoc before (listed_from (length heap) (row ∷ [])) (listed_from (length longer) rows)
    ∙ ap (λ n. before ++ (listed_from (length heap) (row ∷ []) ++ listed_from n rows)) (two_more guard row heap longer made)
    ∙ ap (λ rs. before ++ listed_from (length heap) rs) (sym first)
    ∙ e

pub more_by_id : (guard : Guard) (row : Row) (rows was : List Row) (heap longer : List Thing) (before after all : List (Cell × Value)) → was ≡ row ∷ rows → longer ≡ heap ++ records guard (row ∷ []) → after ≡ before ++ by_id (length heap) (row ∷ []) →
    before ++ by_id (length heap) was ≡ all → after ++ by_id (length longer) rows ≡ all
more_by_id guard row rows was heap longer before after all first made is e =
    ap (λ (vs : List (Cell × Value)). vs ++ by_id (length longer) rows) is ∙ append_assoc before (by_id (length heap) (row ∷ [])) (by_id (length longer) rows)
    ∙ ap (λ n. before ++ (by_id (length heap) (row ∷ []) ++ by_id n rows)) (two_more guard row heap longer made)
    ∙ ap (λ rs. before ++ by_id (length heap) rs) (sym first)
    ∙ e
