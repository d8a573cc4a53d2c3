-- Parents that are followed, path by path.
use Rattle.std.proofs.Common.{◌≡◌, Bool, true, false, cond, if◌then◌else◌, List, [], ◌∷◌, ◌++◌, map, refl, sym, ap, ◌∙◌, append_assoc, append-nil}
use Rattle.std.specs.List.{flat_map, list_any}
use Rattle.indexmap.specs.IndexSet.{insert_key}
use Rattle.apex_rows.specs.declared.query.Path.{Path}
use Rattle.apex_rows.specs.declared.query.SortKey.{SortKey}
use Rattle.apex_rows.specs.declared.query.Query.{Query}
use Rattle.apex_rows.specs.declared.query.Query.TheViews.{out-Query}
use Rattle.query_meaning.specs.Parents.{followed, same_path, each_once, cond_paths, parents_of}
use Rattle.query_questions.specs.Ways.{leading, with_ways}

-- ---- further ones

ways_append : (xs ys ways : List Path) → with_ways ways (xs ++ ys) ≡ with_ways (with_ways ways xs) ys
ways_append [] ys ways = refl
ways_append (x ∷ xs) ys ways = ways_append xs ys (insert_key same_path ways x)

leading_append : (xs ys : List Path) → leading (xs ++ ys) ≡ leading xs ++ leading ys
leading_append [] ys = refl
leading_append (x ∷ xs) ys = ap (λ ps. followed [] x.parents ++ ps) (leading_append xs ys) ∙ sym (append_assoc (followed [] x.parents) (leading xs) (leading ys))

-- those of some paths and of further ones
ways_both : (xs ys ways : List Path) → with_ways (with_ways ways (leading xs)) (leading ys) ≡ with_ways ways (leading (xs ++ ys))
ways_both xs ys ways = sym (ways_append (leading xs) (leading ys) ways) ∙ ap (with_ways ways) (sym (leading_append xs ys))

-- ---- each once

once : (ps before : List Path) → with_ways before ps ≡ before ++ each_once before ps
once [] before = sym (append-nil before)
once (p ∷ ps) before = by (list_any (same_path p) before) (once ps before) (once ps (before ++ p ∷ [])) where
  by : (b : Bool) → with_ways before ps ≡ before ++ each_once before ps → with_ways (before ++ p ∷ []) ps ≡ (before ++ p ∷ []) ++ each_once (before ++ p ∷ []) ps →
      with_ways (if b then before else before ++ p ∷ []) ps ≡ before ++ cond b (each_once before ps) (p ∷ each_once (before ++ p ∷ []) ps)
  by true h k = h
  by false h k = k ∙ append_assoc before (p ∷ []) (each_once (before ++ p ∷ []) ps)

-- those of what a query selects, of its condition and of its order
all_ways : (paths conds keys : List Path) → with_ways (with_ways (with_ways [] (leading paths)) (leading conds)) (leading keys) ≡ each_once [] (leading (paths ++ (conds ++ keys)))
all_ways paths conds keys =
    ways_both conds keys (with_ways [] (leading paths)) ∙ ways_both paths (conds ++ keys) [] ∙ once (leading (paths ++ (conds ++ keys))) []

-- and so its parents
pub parents_are : (q : Query) (paths : List Path) (keys : List SortKey) (w0 w1 w2 w3 : List Path) → paths ≡ (out-Query q).paths → keys ≡ (out-Query q).keys → w0 ≡ [] →
    w1 ≡ with_ways w0 (leading paths) → w2 ≡ with_ways w1 (leading (cond_paths (out-Query q).cond)) → w3 ≡ with_ways w2 (leading (map (λ (k : SortKey). k.path) keys)) → w3 ≡ parents_of q
parents_are q paths keys w0 w1 w2 w3 a b none e1 e2 e3 =
    let conds = cond_paths (out-Query q).cond in
    e3
    ∙ ap (λ w. with_ways w (leading (map (λ (k : SortKey). k.path) keys))) (e2 ∙ ap (λ w. with_ways w (leading conds)) (e1 ∙ ap (λ w. with_ways w (leading paths)) none))
    ∙ ap (λ ps. with_ways (with_ways (with_ways [] (leading ps)) (leading conds)) (leading (map (λ (k : SortKey). k.path) keys))) a
    ∙ ap (λ ks. with_ways (with_ways (with_ways [] (leading (out-Query q).paths)) (leading conds)) (leading (map (λ (k : SortKey). k.path) ks))) b
    ∙ all_ways (out-Query q).paths conds (map (λ (k : SortKey). k.path) (out-Query q).keys)
