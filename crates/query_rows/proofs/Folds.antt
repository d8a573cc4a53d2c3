-- What a condition says, by its parts.
use Rattle.std.proofs.Common.{◌≡◌, Bool, ◌&&◌, ◌||◌, List, [], ◌∷◌, map, refl, sym, ap, ◌∙◌}
use Rattle.std.specs.Prelude.{IfOk, Result, Ok, Err}
use Rattle.std.specs.List.{list_all, list_any}
use Rattle.apex_num.specs.declared.cell.Cell.{Cell}
use Rattle.apex_rows.specs.declared.query.Bind.{Bind}
use Rattle.apex_rows.specs.declared.query.Path.{Path}
use Rattle.apex_rows.specs.declared.query.Cond.{Cond}
use Rattle.apex_rows.specs.declared.query.Cond.TheVariants.{All, Any, rolls-All, rolls-Any}
use Rattle.apex_rows.specs.declared.query.Cond.TheFolds.{fold-roll-Cond}
use Rattle.apex_rows.specs.declared.query.Cond.TheOpen.{Cond-F}
use Rattle.row_meaning.specs.Conds.{holds_step, holds}

any_map : (f : Cond → Bool) (cs : List Cond) → list_any (λ b. b) (map f cs) ≡ list_any f cs
any_map f [] = refl
any_map f (c ∷ cs) = ap (λ t. f c || t) (any_map f cs)

all_map : (f : Cond → Bool) (cs : List Cond) → list_all (λ b. b) (map f cs) ≡ list_all f cs
all_map f [] = refl
all_map f (c ∷ cs) = ap (λ t. f c && t) (all_map f cs)

module _ (binds : List Bind) (value : Path → Cell) where
  pub all_value : (cs : List Cond) → holds binds value (All cs) ≡ list_all (λ (c : Cond). holds binds value c) cs
  all_value cs = ap (holds binds value) (sym (rolls-All cs)) ∙ fold-roll-Cond Bool (holds_step binds value) (Cond-F.All cs) ∙ all_map (holds binds value) cs

  pub any_value : (cs : List Cond) → holds binds value (Any cs) ≡ list_any (λ (c : Cond). holds binds value c) cs
  any_value cs = ap (holds binds value) (sym (rolls-Any cs)) ∙ fold-roll-Cond Bool (holds_step binds value) (Cond-F.Any cs) ∙ any_map (holds binds value) cs

pub ok_same : {E : Type 0} (r : Result Bool E) (a b : Bool) → a ≡ b → IfOk r (λ found. found ≡ a) → IfOk r (λ found. found ≡ b)
ok_same (Ok found) a b e h = h ∙ e
ok_same (Err x) a b e h = tt
