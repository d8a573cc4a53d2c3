-- Keys that differ are put in as they stand.
use Rattle.std.proofs.Common.{◌≡◌, List, [], ◌∷◌, ◌++◌, Result, Ok, Err, IfOk, sym, ap, subst, append_assoc, ◌∙◌}
use Rattle.std.proofs.lemmas.List.{append-nil}
use Rattle.std.specs.Cmp.{IsEquivalence}
use Rattle.std.specs.List.{IsDistinct}
use Rattle.std.specs.Map.{keys_of}
use Rattle.indexmap.specs.IndexMap.{insert_all as put_all, insert_entry}
use Rattle.indexmap.specs.IndexSet.{insert_all}
use Rattle.indexmap.proofs.SetLemmas.{set_all_distinct}
use Rattle.indexmap.proofs.MapLemmas.{absent_before, absent_from_lookup, insert_entry-absent}
use Rattle.apex_num.specs.declared.cell.Cell.{Cell}
use Rattle.apex_num.specs.contracts.cell.CellEq.TheImpl.Laws.{laws-law}
use Rattle.txn_heap.specs.Equal.{same}

pub same_equiv : IsEquivalence same
same_equiv = laws-law

pub elements_kept : (ks : List Cell) → IsDistinct same ks → insert_all same [] ks ≡ ks
elements_kept ks h = set_all_distinct same_equiv [] ks h

pub entries_behind : {V : Type 0} (es xs : List (Cell × V)) → IsDistinct same (keys_of (es ++ xs)) → put_all same es xs ≡ es ++ xs
entries_behind es [] h = sym (append-nil es)
entries_behind es (x ∷ xs) h =
    let new : insert_entry same es x.0 x.1 ≡ es ++ x ∷ [] = insert_entry-absent same x.0 x.1 es (absent_from_lookup (same x.0) es (absent_before same_equiv es xs x h)) in
    let moved : (es ++ x ∷ []) ++ xs ≡ es ++ x ∷ xs = append_assoc es (x ∷ []) xs in
    ap (λ l. put_all same l xs) new ∙ entries_behind (es ++ x ∷ []) xs (subst (λ l. IsDistinct same (keys_of l)) (sym moved) h) ∙ moved

pub entries_kept : {V : Type 0} (es : List (Cell × V)) → IsDistinct same (keys_of es) → put_all same [] es ≡ es
entries_kept es h = entries_behind [] es h

pub ok_elements : {E : Type 0} (r : Result (List Cell) E) (xs ks : List Cell) → xs ≡ ks → IsDistinct same ks → IfOk r (λ v. v ≡ insert_all same [] xs) → IfOk r (λ v. v ≡ ks)
ok_elements (Ok v) xs ks e d h = h ∙ ap (insert_all same []) e ∙ elements_kept ks d
ok_elements (Err x) xs ks e d h = tt

pub ok_entries : {V E : Type 0} (r : Result (List (Cell × V)) E) (xs es : List (Cell × V)) → xs ≡ es → IsDistinct same (keys_of es) → IfOk r (λ v. v ≡ put_all same [] xs) → IfOk r (λ v. v ≡ es)
ok_entries (Ok v) xs es e d h = h ∙ ap (put_all same []) e ∙ entries_kept es d
ok_entries (Err x) xs es e d h = tt
