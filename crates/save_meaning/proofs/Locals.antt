-- What holds with a condition: the part of it that a store is asked for.
use Rattle.std.proofs.Common.{◌≡◌, refl, ap, sym, ◌∙◌, Bool, true, false, cond, List, [], ◌∷◌, map}
use Rattle.std.specs.Prelude.{◌&&◌, filter}
use Rattle.std.specs.List.{list_all}
use Rattle.apex_rows.specs.declared.row.Row.{Row}
use Rattle.apex_rows.specs.declared.query.Cond.{Cond}
use Rattle.apex_rows.specs.declared.query.Cond.TheVariants.{All, rolls-All}
use Rattle.apex_rows.specs.declared.query.Cond.TheFolds.{fold-roll-Cond}
use Rattle.apex_rows.specs.declared.query.Cond.TheViews.{out-Cond, roll-Cond, roll-out-Cond}
use Rattle.apex_rows.specs.declared.query.Cond.TheOpen.{Cond-F}
use Rattle.row_meaning.specs.Conds.{holds_step, holds_of, own_value, is_local, conjuncts_by, local_part}

all_map : (f : Cond → Bool) (cs : List Cond) → list_all (λ b. b) (map f cs) ≡ list_all f cs
all_map f [] = refl
all_map f (c ∷ cs) = ap (λ t. f c && t) (all_map f cs)

module _ (r : Row) where
  abbrev says : Cond → Bool
  says c = holds_of c r

  all_value : (cs : List Cond) → says (All cs) ≡ list_all says cs
  all_value cs = ap says (sym (rolls-All cs)) ∙ fold-roll-Cond Bool (holds_step [] (own_value r)) (Cond-F.All cs) ∙ all_map says cs

  both : (a b : Bool) → (a && b) ≡ true → (a ≡ true) × (b ≡ true)
  both true b h = (refl, h)
  both false b h = absurd (cc)

  -- of conditions that all hold, some hold, too
  some_hold : (test : Cond → Bool) (cs : List Cond) → list_all says cs ≡ true → list_all says (filter test cs) ≡ true
  some_hold test [] h = refl
  some_hold test (c ∷ cs) h = by (test c) (some_hold test cs (both (says c) (list_all says cs) h).1) where
    by : (b : Bool) → list_all says (filter test cs) ≡ true → list_all says (cond b (c ∷ filter test cs) (filter test cs)) ≡ true
    by true more = ap (λ d. d && list_all says (filter test cs)) (both (says c) (list_all says cs) h).0 ∙ more
    by false more = more

  itself : (c : Cond) → says c ≡ true → list_all says (c ∷ []) ≡ true
  itself c h = ap (λ d. d && true) h

  pub local_holds : (c : Cond) → says c ≡ true → says (All (local_part c)) ≡ true
  local_holds c h = all_value (local_part c) ∙ by (out-Cond c) (roll-out-Cond c) where
    by : (view : Cond-F Cond) → roll-Cond view ≡ c → list_all says (filter is_local (conjuncts_by c view)) ≡ true
    by (Cond-F.All cs) e = some_hold is_local cs (sym (all_value cs) ∙ ap says (sym (rolls-All cs) ∙ e) ∙ h)
    by (Cond-F.Any cs) e = some_hold is_local (c ∷ []) (itself c h)
    by (Cond-F.Not d) e = some_hold is_local (c ∷ []) (itself c h)
    by (Cond-F.Compare path op term) e = some_hold is_local (c ∷ []) (itself c h)
    by (Cond-F.Within path negated terms) e = some_hold is_local (c ∷ []) (itself c h)
