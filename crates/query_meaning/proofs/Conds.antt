-- What conditions say: with the values of their binds in their places, of their paths alone, and of the part that is asked for.
use Rattle.std.proofs.Common.{◌≡◌, refl, ap, sym, subst, ◌∙◌, Bool, true, false, cond, List, [], ◌∷◌, ◌++◌, map}
use Rattle.std.specs.Prelude.{◌&&◌, not, filter}
use Rattle.std.specs.List.{AllByRecursion, list_all, list_any, flat_map}
use Rattle.apex_num.specs.declared.cell.Cell.{Cell}
use Rattle.apex_rows.specs.declared.query.Bind.{Bind}
use Rattle.apex_rows.specs.declared.query.Path.{Path}
use Rattle.apex_rows.specs.declared.query.Term.{Term}
use Rattle.apex_rows.specs.declared.query.Term.TheVariants.{Given}
use Rattle.apex_rows.specs.declared.query.Terms.{Terms}
use Rattle.apex_rows.specs.declared.query.Cond.{Cond}
use Rattle.apex_rows.specs.declared.query.Cond.TheOpen.{Cond-F}
use Rattle.apex_rows.specs.declared.query.Cond.TheFolds.{fold-roll-Cond, map-Cond, ind-Cond}
use Rattle.apex_rows.specs.declared.query.Cond.TheViews.{out-Cond, roll-Cond, roll-out-Cond}
use Rattle.apex_rows.specs.declared.query.Cond.TheVariants.{All, Any, Not, Compare, Within, rolls-All, rolls-Any, rolls-Not, rolls-Compare, rolls-Within}
use Rattle.apex_rows.specs.declared.row.Row.{Row}
use Rattle.row_meaning.specs.Cells.{same_cell, compares}
use Rattle.row_meaning.specs.Conds.{term_value, terms_values, within, holds_step, holds, own_value, holds_of, is_own, own_step, is_local, conjuncts_by, conjuncts}
use Rattle.query_meaning.specs.Questions.{given_terms, given_step, given, asked}
use Rattle.query_meaning.specs.Parents.{paths_step, cond_paths}
use Rattle.query_meaning.proofs.Maps.{clash}

pub both_true : (a b : Bool) → (a && b) ≡ true → (a ≡ true) × (b ≡ true)
both_true true b h = (refl, h)
both_true false b h = absurd (clash (sym h))

-- ---- a condition by its form

holds_roll : (binds : List Bind) (value : Path → Cell) (z : Cond-F Cond) → holds binds value (roll-Cond z) ≡ holds_step binds value (map-Cond Cond Bool (holds binds value) z)
holds_roll binds value z = fold-roll-Cond Bool (holds_step binds value) z

given_roll : (binds : List Bind) (z : Cond-F Cond) → given binds (roll-Cond z) ≡ given_step binds (map-Cond Cond Cond (given binds) z)
given_roll binds z = fold-roll-Cond Cond (given_step binds) z

local_roll : (z : Cond-F Cond) → is_local (roll-Cond z) ≡ own_step (map-Cond Cond Bool is_local z)
local_roll z = fold-roll-Cond Bool own_step z

paths_roll : (z : Cond-F Cond) → cond_paths (roll-Cond z) ≡ paths_step (map-Cond Cond (List Path) cond_paths z)
paths_roll z = fold-roll-Cond (List Path) paths_step z

module _ (binds : List Bind) (value : Path → Cell) where
  pub holds_All : (cs : List Cond) → holds binds value (All cs) ≡ list_all (λ b. b) (map (holds binds value) cs)
  holds_All cs = ap (holds binds value) (sym (rolls-All cs)) ∙ holds_roll binds value (Cond-F.All cs)

  holds_Any : (cs : List Cond) → holds binds value (Any cs) ≡ list_any (λ b. b) (map (holds binds value) cs)
  holds_Any cs = ap (holds binds value) (sym (rolls-Any cs)) ∙ holds_roll binds value (Cond-F.Any cs)

  holds_Not : (c : Cond) → holds binds value (Not c) ≡ not (holds binds value c)
  holds_Not c = ap (holds binds value) (sym (rolls-Not c)) ∙ holds_roll binds value (Cond-F.Not c)

  pub holds_Compare : (path : Path) (op : _) (term : Term) → holds binds value (Compare path op term) ≡ compares op (value path) (term_value binds term)
  holds_Compare path op term = ap (holds binds value) (sym (rolls-Compare path op term)) ∙ holds_roll binds value (Cond-F.Compare path op term)

  pub holds_Within : (path : Path) (negated : Bool) (terms : Terms) →
      holds binds value (Within path negated terms) ≡ within negated (list_any (same_cell (value path)) (terms_values binds terms))
  holds_Within path negated terms = ap (holds binds value) (sym (rolls-Within path negated terms)) ∙ holds_roll binds value (Cond-F.Within path negated terms)

-- ---- binds

given_back : (cs : List Cell) → map (term_value []) (map (λ (c : Cell). Given c) cs) ≡ cs
given_back [] = refl
given_back (c ∷ cs) = ap (λ rest. c ∷ rest) (given_back cs)

module _ (binds : List Bind) (value : Path → Cell) where
  abbrev Same : Cond → Type 0
  Same c = holds [] value (given binds c) ≡ holds binds value c

  abbrev Such : Type 0
  Such = (c : Cond) × Same c

  each_same : (ys : List Such) → map (holds [] value) (map (given binds) (map (λ y. y.0) ys)) ≡ map (holds binds value) (map (λ y. y.0) ys)
  each_same [] = refl
  each_same (y ∷ ys) = ap (λ b. b ∷ map (holds [] value) (map (given binds) (map (λ y. y.0) ys))) y.1 ∙ ap (λ bs. holds binds value y.0 ∷ bs) (each_same ys)

  layer : (y : Cond-F Such) → Same (roll-Cond (map-Cond Such Cond (λ y. y.0) y))
  layer (Cond-F.All ys) =
      ap (holds [] value) (given_roll binds (Cond-F.All (map (λ y. y.0) ys))) ∙ holds_All [] value (map (given binds) (map (λ y. y.0) ys))
      ∙ ap (list_all (λ b. b)) (each_same ys) ∙ sym (holds_roll binds value (Cond-F.All (map (λ y. y.0) ys)))
  layer (Cond-F.Any ys) =
      ap (holds [] value) (given_roll binds (Cond-F.Any (map (λ y. y.0) ys))) ∙ holds_Any [] value (map (given binds) (map (λ y. y.0) ys))
      ∙ ap (list_any (λ b. b)) (each_same ys) ∙ sym (holds_roll binds value (Cond-F.Any (map (λ y. y.0) ys)))
  layer (Cond-F.Not y) =
      ap (holds [] value) (given_roll binds (Cond-F.Not y.0)) ∙ holds_Not [] value (given binds y.0) ∙ ap not y.1 ∙ sym (holds_roll binds value (Cond-F.Not y.0))
  layer (Cond-F.Compare path op term) =
      ap (holds [] value) (given_roll binds (Cond-F.Compare path op term)) ∙ holds_Compare [] value path op (Given (term_value binds term))
      ∙ sym (holds_roll binds value (Cond-F.Compare path op term))
  layer (Cond-F.Within path negated terms) =
      ap (holds [] value) (given_roll binds (Cond-F.Within path negated terms)) ∙ holds_Within [] value path negated (given_terms binds terms)
      ∙ ap (λ cs. within negated (list_any (same_cell (value path)) cs)) (given_back (terms_values binds terms)) ∙ sym (holds_roll binds value (Cond-F.Within path negated terms))

  pub given_holds : (c : Cond) → Same c
  given_holds = ind-Cond Same (λ x y is. subst (λ z. Same (roll-Cond z)) is (layer y))

-- ---- paths

abbrev pub Agree : (Path → Cell) → (Path → Cell) → List Path → Type 0
Agree v w paths = AllByRecursion (λ (p : Path). v p ≡ w p) paths

pub agree_left : (v w : Path → Cell) (ps qs : List Path) → Agree v w (ps ++ qs) → Agree v w ps
agree_left v w [] qs h = tt
agree_left v w (p ∷ ps) qs h = (h.0, agree_left v w ps qs h.1)

pub agree_right : (v w : Path → Cell) (ps qs : List Path) → Agree v w (ps ++ qs) → Agree v w qs
agree_right v w [] qs h = h
agree_right v w (p ∷ ps) qs h = agree_right v w ps qs h.1

module _ (binds : List Bind) (v w : Path → Cell) where
  abbrev Says : Cond → Type 0
  Says c = Agree v w (cond_paths c) → holds binds v c ≡ holds binds w c

  abbrev Saying : Type 0
  Saying = (c : Cond) × Says c

  each_says : (ys : List Saying) → Agree v w (flat_map (λ (p : List Path). p) (map cond_paths (map (λ y. y.0) ys))) →
      map (holds binds v) (map (λ y. y.0) ys) ≡ map (holds binds w) (map (λ y. y.0) ys)
  each_says [] h = refl
  each_says (y ∷ ys) h =
      ap (λ b. b ∷ map (holds binds v) (map (λ y. y.0) ys)) (y.1 (agree_left v w (cond_paths y.0) (flat_map (λ (p : List Path). p) (map cond_paths (map (λ y. y.0) ys))) h))
      ∙ ap (λ bs. holds binds w y.0 ∷ bs) (each_says ys (agree_right v w (cond_paths y.0) (flat_map (λ (p : List Path). p) (map cond_paths (map (λ y. y.0) ys))) h))

  on_both : (z : Cond-F Cond) → holds_step binds v (map-Cond Cond Bool (holds binds v) z) ≡ holds_step binds w (map-Cond Cond Bool (holds binds w) z) →
      holds binds v (roll-Cond z) ≡ holds binds w (roll-Cond z)
  on_both z e = holds_roll binds v z ∙ e ∙ sym (holds_roll binds w z)

  rolled : (z : Cond-F Cond) → Agree v w (cond_paths (roll-Cond z)) → Agree v w (paths_step (map-Cond Cond (List Path) cond_paths z))
  rolled z h = subst (Agree v w) (paths_roll z) h

  says_layer : (y : Cond-F Saying) → Says (roll-Cond (map-Cond Saying Cond (λ y. y.0) y))
  says_layer (Cond-F.All ys) h = on_both (Cond-F.All (map (λ y. y.0) ys)) (ap (list_all (λ b. b)) (each_says ys (rolled (Cond-F.All (map (λ y. y.0) ys)) h)))
  says_layer (Cond-F.Any ys) h = on_both (Cond-F.Any (map (λ y. y.0) ys)) (ap (list_any (λ b. b)) (each_says ys (rolled (Cond-F.Any (map (λ y. y.0) ys)) h)))
  says_layer (Cond-F.Not y) h = on_both (Cond-F.Not y.0) (ap not (y.1 (rolled (Cond-F.Not y.0) h)))
  says_layer (Cond-F.Compare path op term) h =
      on_both (Cond-F.Compare path op term) (ap (λ c. compares op c (term_value binds term)) (rolled (Cond-F.Compare path op term) h).0)
  says_layer (Cond-F.Within path negated terms) h =
      on_both (Cond-F.Within path negated terms) (ap (λ c. within negated (list_any (same_cell c) (terms_values binds terms))) (rolled (Cond-F.Within path negated terms) h).0)

  -- a condition says the same where its paths have the same values
  pub same_says : (c : Cond) → Says c
  same_says = ind-Cond Says (λ x y is. subst (λ z. Says (roll-Cond z)) is (says_layer y))

-- ---- the part that is asked for

module _ (v w : Path → Cell) (own : (path : Path) → is_own path ≡ true → v path ≡ w path) where
  abbrev Own : Cond → Type 0
  Own c = is_local c ≡ true → Agree v w (cond_paths c)

  abbrev Owning : Type 0
  Owning = (c : Cond) × Own c

  agree_append : (ps qs : List Path) → Agree v w ps → Agree v w qs → Agree v w (ps ++ qs)
  agree_append [] qs h k = k
  agree_append (p ∷ ps) qs h k = (h.0, agree_append ps qs h.1 k)

  each_own : (ys : List Owning) → list_all (λ b. b) (map is_local (map (λ y. y.0) ys)) ≡ true → Agree v w (flat_map (λ (p : List Path). p) (map cond_paths (map (λ y. y.0) ys)))
  each_own [] h = tt
  each_own (y ∷ ys) h =
      let parts = both_true (is_local y.0) (list_all (λ b. b) (map is_local (map (λ y. y.0) ys))) h in
      agree_append (cond_paths y.0) (flat_map (λ (p : List Path). p) (map cond_paths (map (λ y. y.0) ys))) (y.1 parts.0) (each_own ys parts.1)

  of_form : (z : Cond-F Cond) → (own_step (map-Cond Cond Bool is_local z) ≡ true → Agree v w (paths_step (map-Cond Cond (List Path) cond_paths z))) → Own (roll-Cond z)
  of_form z go h = subst (Agree v w) (sym (paths_roll z)) (go (sym (local_roll z) ∙ h))

  own_layer : (y : Cond-F Owning) → Own (roll-Cond (map-Cond Owning Cond (λ y. y.0) y))
  own_layer (Cond-F.All ys) = of_form (Cond-F.All (map (λ y. y.0) ys)) (each_own ys)
  own_layer (Cond-F.Any ys) = of_form (Cond-F.Any (map (λ y. y.0) ys)) (each_own ys)
  own_layer (Cond-F.Not y) = of_form (Cond-F.Not y.0) y.1
  own_layer (Cond-F.Compare path op term) = of_form (Cond-F.Compare path op term) (λ h. (own path h, tt))
  own_layer (Cond-F.Within path negated terms) = of_form (Cond-F.Within path negated terms) (λ h. (own path h, tt))

  local_agrees : (c : Cond) → Own c
  local_agrees = ind-Cond Own (λ x y is. subst (λ z. Own (roll-Cond z)) is (own_layer y))

  -- conditions that all hold by the one hold, where they are local, by the other
  locals_hold : (cs : List Cond) → list_all (holds [] v) cs ≡ true → list_all (holds [] w) (filter is_local cs) ≡ true
  locals_hold [] h = refl
  locals_hold (c ∷ cs) h = by (is_local c) refl (locals_hold cs (both_true (holds [] v c) (list_all (holds [] v) cs) h).1) where
    by : (b : Bool) → is_local c ≡ b → list_all (holds [] w) (filter is_local cs) ≡ true → list_all (holds [] w) (cond b (c ∷ filter is_local cs) (filter is_local cs)) ≡ true
    by true e more =
        ap (λ d. d && list_all (holds [] w) (filter is_local cs)) (sym (same_says [] v w c (local_agrees c e)) ∙ (both_true (holds [] v c) (list_all (holds [] v) cs) h).0) ∙ more
    by false e more = more

-- what holds with a condition: each of those that have to hold together
module _ (value : Path → Cell) where
  pub all_map : (cs : List Cond) → list_all (λ b. b) (map (holds [] value) cs) ≡ list_all (holds [] value) cs
  all_map [] = refl
  all_map (c ∷ cs) = ap (λ b. holds [] value c && b) (all_map cs)

  alone_holds : (c : Cond) → holds [] value c ≡ true → list_all (holds [] value) (c ∷ []) ≡ true
  alone_holds c h = ap (λ b. b && true) h

  pub conjuncts_hold : (c : Cond) → holds [] value c ≡ true → list_all (holds [] value) (conjuncts c) ≡ true
  conjuncts_hold c h = by (out-Cond c) (roll-out-Cond c) where
    by : (view : Cond-F Cond) → roll-Cond view ≡ c → list_all (holds [] value) (conjuncts_by c view) ≡ true
    by (Cond-F.All cs) e = sym (all_map cs) ∙ sym (holds_roll [] value (Cond-F.All cs)) ∙ ap (holds [] value) e ∙ h
    by (Cond-F.Any cs) e = alone_holds c h
    by (Cond-F.Not d) e = alone_holds c h
    by (Cond-F.Compare path op term) e = alone_holds c h
    by (Cond-F.Within path negated terms) e = alone_holds c h

-- where a condition holds by some values of paths that agree with a row's own cells, what is asked for of it holds of the row
pub asked_holds : (binds : List Bind) (value : Path → Cell) (r : Row) → ((path : Path) → is_own path ≡ true → value path ≡ own_value r path) →
    (c : Cond) → holds binds value c ≡ true → list_all (λ (d : Cond). holds_of d r) (asked binds c) ≡ true
asked_holds binds value r own c h = locals_hold value (own_value r) own (conjuncts (given binds c)) (conjuncts_hold value (given binds c) (given_holds binds value c ∙ h))
