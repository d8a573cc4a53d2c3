-- The Ids over the rows of a query.
use Rattle.std.proofs.Common.{◌≡◌, ℕ, Bool, true, false, ◌||◌, ◌&&◌, not, eqb, cond, if◌then◌else◌, List, [], ◌∷◌, ◌++◌, map, refl, sym, ap, ◌∙◌, append_assoc, append-nil}
use Rattle.std.specs.List.{list_any}
use Rattle.std.proofs.lemmas.Bool.Decides.{Decides-eqb}
use Rattle.std.proofs.lemmas.Grind.{flat_map-append}
use Rattle.std.proofs.lemmas.List.{map-append}
use Rattle.std.proofs.lemmas.List.Elements.{filter-append}
use Rattle.std.proofs.lemmas.List.Folds.{list_any-append}
use Rattle.std.proofs.lemmas.Simd.{map-map}
use Rattle.std.proofs.lemmas.Slice.Eq.{bytes_eq-Decides}
use Rattle.apex_num.specs.declared.cell.Cell.{Cell}
use Rattle.apex_rows.specs.declared.query.Path.{Path}
use Rattle.apex_rows.specs.declared.query.SortKey.{SortKey}
use Rattle.apex_rows.specs.declared.query.Query.{Query}
use Rattle.apex_rows.specs.declared.query.Query.TheOpen.{Query-F}
use Rattle.apex_rows.specs.declared.query.Query.TheViews.{out-Query, out-roll-Query}
use Rattle.apex_rows.specs.declared.query.SubQuery.{SubQuery}
use Rattle.row_meaning.specs.Cells.{is_empty}
use Rattle.row_meaning.specs.Queries.{path_value}
use Rattle.query_meaning.specs.Parents.{followed, same_path, each_once, cond_paths}
use Rattle.query_records.specs.Laws.{ParentsStay, IdsComeFirst}
use Rattle.query_records.specs.Shapes.{ways, behind, id_over, with_ids, longer, with_own, query_with, child_with}
use Rattle.query_records.specs.Ways.{added, with_ways, leading}
use Rattle.query_records.proofs.Followed.{ways_append, once}

-- ---- which fields are there

abbrev is_in : List Path → Path → Bool
is_in known p = list_any (same_path p) known

abbrev AllIn : List Path → List Path → Type 0
AllIn known [] = Unit {0}
AllIn known (p ∷ ps) = (is_in known p ≡ true) × AllIn known ps

same_as_itself : (p : Path) → same_path p p ≡ true
same_as_itself p = ap (λ b. b && eqb p.field p.field) ((bytes_eq-Decides p.parents p.parents).1 refl) ∙ (Decides-eqb p.field p.field).1 refl

stays : (known : List Path) (p q : Path) → is_in known q ≡ true → is_in (added known p) q ≡ true
stays known p q h = by (is_in known p) where
  by : (b : Bool) → is_in (if b then known else known ++ p ∷ []) q ≡ true
  by true = h
  by false = list_any-append (same_path q) known (p ∷ []) ∙ ap (λ b. b || list_any (same_path q) (p ∷ [])) h

there_now : (known : List Path) (p : Path) → is_in (added known p) p ≡ true
there_now known p = by (is_in known p) refl where
  by : (b : Bool) → is_in known p ≡ b → is_in (if b then known else known ++ p ∷ []) p ≡ true
  by true h = h
  by false h = list_any-append (same_path p) known (p ∷ []) ∙ ap (λ b. b || (same_path p p || false)) h ∙ ap (λ b. b || false) (same_as_itself p)

stays_with : (ps known : List Path) (q : Path) → is_in known q ≡ true → is_in (with_ways known ps) q ≡ true
stays_with [] known q h = h
stays_with (p ∷ ps) known q h = stays_with ps (added known p) q (stays known p q h)

all_stay : (known : List Path) (p : Path) (qs : List Path) → AllIn known qs → AllIn (added known p) qs
all_stay known p [] h = tt
all_stay known p (q ∷ qs) h = (stays known p q h.0, all_stay known p qs h.1)

all_of_both : (known qs rs : List Path) → AllIn known qs → AllIn known rs → AllIn known (qs ++ rs)
all_of_both known [] rs h k = k
all_of_both known (q ∷ qs) rs h k = (h.0, all_of_both known qs rs h.1 k)

all_there : (ps known : List Path) → AllIn (with_ways known ps) ps
all_there [] known = tt
all_there (p ∷ ps) known = (stays_with ps (added known p) p (there_now known p), all_there ps (added known p))

nothing_new : (ps known : List Path) → AllIn known ps → with_ways known ps ≡ known
nothing_new [] known h = refl
nothing_new (p ∷ ps) known h = ap (λ b. with_ways (if b then known else known ++ p ∷ []) ps) h.0 ∙ nothing_new ps known h.1

-- ---- each behind those on its way

followed_on : (before way : List ℕ) (f : ℕ) → followed before (way ++ f ∷ []) ≡ followed before way ++ record { parents = before ++ way; field = f } ∷ []
followed_on before [] f = ap (λ (b : List ℕ). record { parents = b; field = f } ∷ []) (sym (append-nil before))
followed_on before (w ∷ way) f =
    ap (λ ps. record { parents = before; field = w } ∷ ps)
    (followed_on (before ++ w ∷ []) way f ∙ ap (λ (b : List ℕ). followed (before ++ w ∷ []) way ++ record { parents = b; field = f } ∷ []) (append_assoc before (w ∷ []) way))

-- the ways to the Ids behind these lead to these, in this order
abbrev IsWhole : List Path → Type 0
IsWhole known = with_ways [] (leading (map id_over known)) ≡ known

whole_behind : (known : List Path) (w : Path) → IsWhole known → AllIn known (followed [] w.parents) → with_ways [] (leading (map id_over (known ++ w ∷ []))) ≡ added known w
whole_behind known w h on =
    ap (λ ps. with_ways [] (leading ps)) (map-append id_over known (w ∷ []))
    ∙ ap (with_ways []) (flat_map-append (λ (p : Path). followed [] p.parents) (map id_over known) (id_over w ∷ []))
    ∙ ways_append (leading (map id_over known)) (leading (id_over w ∷ [])) []
    ∙ ap (λ ks. with_ways ks (leading (id_over w ∷ []))) h
    ∙ ap (with_ways known) (append-nil (followed [] (behind w)) ∙ followed_on [] w.parents w.field)
    ∙ ways_append (followed [] w.parents) (w ∷ []) known
    ∙ ap (λ ks. with_ways ks (w ∷ [])) (nothing_new (followed [] w.parents) known on)

whole_with : (known : List Path) (w : Path) → IsWhole known → AllIn known (followed [] w.parents) → IsWhole (added known w)
whole_with known w h on = by (is_in known w) refl where
  by : (b : Bool) → is_in known w ≡ b → IsWhole (if b then known else known ++ w ∷ [])
  by true e = h
  by false e = whole_behind known w h on ∙ ap (λ b. if b then known else known ++ w ∷ []) e

whole_path : (way before : List ℕ) (known : List Path) → IsWhole known → AllIn known (followed [] before) → IsWhole (with_ways known (followed before way))
whole_path [] before known h on = h
whole_path (f ∷ way) before known h on = whole_path way (before ++ f ∷ []) (added known w) (whole_with known w h on) (rw (followed_on [] before f) there) where
  w : Path
  w = record { parents = before; field = f }

  there : AllIn (added known w) (followed [] before ++ w ∷ [])
  there = all_of_both (added known w) (followed [] before) (w ∷ []) (all_stay known w (followed [] before) on) (there_now known w, tt)

whole_paths : (paths known : List Path) → IsWhole known → IsWhole (with_ways known (leading paths))
whole_paths [] known h = h
whole_paths (p ∷ ps) known h = rw (ways_append (followed [] p.parents) (leading ps) known) (whole_paths ps (with_ways known (followed [] p.parents)) (whole_path p.parents [] known h tt))

-- ---- parents

ways_of_both : (known xs ys : List Path) → with_ways known (leading (xs ++ ys)) ≡ with_ways (with_ways known (leading xs)) (leading ys)
ways_of_both known xs ys = ap (with_ways known) (flat_map-append (λ (p : Path). followed [] p.parents) xs ys) ∙ ways_append (leading xs) (leading ys) known

ids_lead : (paths : List Path) → with_ways [] (leading (with_ids paths)) ≡ with_ways [] (leading paths)
ids_lead paths =
    ways_of_both [] (map id_over (ways paths)) paths
    ∙ ap (λ ws. with_ways (with_ways [] (leading (map id_over ws))) (leading paths)) (sym (once (leading paths) []))
    ∙ ap (λ ws. with_ways ws (leading paths)) (whole_paths paths [] refl)
    ∙ nothing_new (leading paths) (with_ways [] (leading paths)) (all_there (leading paths) [])

same_parents : (paths rest : List Path) → each_once [] (leading (with_ids paths ++ rest)) ≡ each_once [] (leading (paths ++ rest))
same_parents paths rest =
    sym (once (leading (with_ids paths ++ rest)) [])
    ∙ ways_of_both [] (with_ids paths) rest
    ∙ ap (λ ws. with_ways ws (leading rest)) (ids_lead paths)
    ∙ sym (ways_of_both [] paths rest)
    ∙ once (leading (paths ++ rest)) []

abbrev parents_in : Query-F Query SubQuery → List Path
parents_in q = each_once [] (leading (q.paths ++ (cond_paths q.cond ++ map (λ (k : SortKey). k.path) q.keys)))

pub parents_stay : ParentsStay query_with
parents_stay q =
    ap parents_in (out-roll-Query (record (out-Query q) { paths = with_ids (out-Query q).paths; children = map child_with (out-Query q).children }))
    ∙ same_parents (out-Query q).paths (cond_paths (out-Query q).cond ++ map (λ (k : SortKey). k.path) (out-Query q).keys)

pub parents_under_stay : ParentsStay with_own
parents_under_stay q =
    ap parents_in (out-roll-Query (record (out-Query q) { paths = with_ids (out-Query q).paths }))
    ∙ same_parents (out-Query q).paths (cond_paths (out-Query q).cond ++ map (λ (k : SortKey). k.path) (out-Query q).keys)

-- ---- values

some_way : (way : List ℕ) (f : ℕ) → is_empty (way ++ f ∷ []) ≡ false
some_way [] f = refl
some_way (w ∷ way) f = refl

ids_are_longer : (ws : List Path) → longer (map id_over ws) ≡ map id_over ws
ids_are_longer [] = refl
ids_are_longer (w ∷ ws) =
    ap (λ b. cond (not b) (id_over w ∷ longer (map id_over ws)) (longer (map id_over ws))) (some_way w.parents w.field) ∙ ap (λ ps. id_over w ∷ ps) (ids_are_longer ws)

values_with : (value : Path → Cell) (paths : List Path) → map value (longer (with_ids paths)) ≡ map (λ (w : Path). value (id_over w)) (ways paths) ++ map value (longer paths)
values_with value paths =
    ap (map value) (filter-append (λ (p : Path). not (is_empty p.parents)) (map id_over (ways paths)) paths ∙ ap (λ ps. ps ++ longer paths) (ids_are_longer (ways paths)))
    ∙ map-append value (map id_over (ways paths)) (longer paths)
    ∙ ap (λ vs. vs ++ map value (longer paths)) (map-map value id_over (ways paths))

abbrev values_in : (Path → Cell) → Query-F Query SubQuery → List Cell
values_in value q = map value (longer q.paths)

pub ids_come_first : IdsComeFirst query_with
ids_come_first schema share rows binds mode user q row =
    ap (values_in (path_value schema rows row)) (out-roll-Query (record (out-Query q) { paths = with_ids (out-Query q).paths; children = map child_with (out-Query q).children }))
    ∙ values_with (path_value schema rows row) (out-Query q).paths

pub ids_under_come_first : IdsComeFirst with_own
ids_under_come_first schema share rows binds mode user q row =
    ap (values_in (path_value schema rows row)) (out-roll-Query (record (out-Query q) { paths = with_ids (out-Query q).paths }))
    ∙ values_with (path_value schema rows row) (out-Query q).paths
