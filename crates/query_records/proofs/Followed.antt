-- Fields that are followed, one after the other.
use Rattle.std.proofs.Common.{◌≡◌, Bool, true, false, cond, if◌then◌else◌, List, [], ◌∷◌, ◌++◌, length, get_or, drop, ℕ, ◌+◌, ◌<◌, ◌≤◌, refl, sym, ap, ◌∙◌, append_assoc, append-nil}
use Rattle.std.proofs.lemmas.List.{at_drop_more, at_drop_all}
use Rattle.std.specs.List.{list_any}
use Rattle.apex_rows.specs.declared.query.Path.{Path}
use Rattle.query_meaning.specs.Parents.{followed, same_path, each_once}
use Rattle.query_records.specs.Shapes.{ways}
use Rattle.query_records.specs.Ways.{added, with_ways, leading}

-- those of some paths and of further ones
pub ways_append : (xs ys known : List Path) → with_ways known (xs ++ ys) ≡ with_ways (with_ways known xs) ys
ways_append [] ys known = refl
ways_append (x ∷ xs) ys known = ways_append xs ys (added known x)

-- each once
pub once : (ps before : List Path) → with_ways before ps ≡ before ++ each_once before ps
once [] before = sym (append-nil before)
once (p ∷ ps) before = by (list_any (same_path p) before) (once ps before) (once ps (before ++ p ∷ [])) where
  by : (b : Bool) → with_ways before ps ≡ before ++ each_once before ps → with_ways (before ++ p ∷ []) ps ≡ (before ++ p ∷ []) ++ each_once (before ++ p ∷ []) ps →
      with_ways (if b then before else before ++ p ∷ []) ps ≡ before ++ cond b (each_once before ps) (p ∷ each_once (before ++ p ∷ []) ps)
  by true h k = h
  by false h k = k ∙ append_assoc before (p ∷ []) (each_once (before ++ p ∷ []) ps)

-- those of the next path, and of those behind it
pub next_ways : (paths : List Path) (i : ℕ) (p : Path) (known now : List Path) (parents : List ℕ) → i < length paths → p ≡ get_or paths i p → parents ≡ p.parents →
    now ≡ with_ways known (followed [] parents) → with_ways now (leading (drop (i + 1) paths)) ≡ with_ways known (leading (drop i paths))
next_ways paths i p known now parents h is same e =
    ap (λ ws. with_ways ws (leading (drop (i + 1) paths))) (e ∙ ap (λ ps. with_ways known (followed [] ps)) same)
    ∙ sym (ways_append (followed [] p.parents) (leading (drop (i + 1) paths)) known)
    ∙ sym (ap (with_ways known) (at_drop_more leading paths i p h ∙ ap (λ q. leading (q ∷ drop (i + 1) paths)) (sym is)))

-- those of all paths
pub all_ways : (paths : List Path) (i : ℕ) (known : List Path) → length paths ≤ i → with_ways known (leading (drop i paths)) ≡ with_ways [] (leading paths) → known ≡ ways paths
all_ways paths i known h e = sym (ap (with_ways known) (at_drop_all leading paths i h)) ∙ e ∙ once (leading paths) []
