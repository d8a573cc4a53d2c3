-- What a condition says, by its parts.
use Rattle.std.proofs.Common.{◌≡◌, ◌<◌, ◌+◌, ℕ, Bool, ◌&&◌, ◌||◌, List, [], ◌∷◌, ◌++◌, length, take, get_or, map, refl, sym, ap, ◌∙◌}
use Rattle.std.proofs.lemmas.List.{map_push, take_more}
use Rattle.std.specs.Prelude.{not, IfOk, Result, Ok, Err}
use Rattle.std.specs.List.{list_all, list_any}
use Rattle.apex_num.specs.declared.cell.Cell.{Cell}
use Rattle.apex_rows.specs.declared.query.Bind.{Bind}
use Rattle.apex_rows.specs.declared.query.CondOp.{CondOp}
use Rattle.apex_rows.specs.declared.query.Path.{Path}
use Rattle.apex_rows.specs.declared.query.Term.{Term}
use Rattle.apex_rows.specs.declared.query.Terms.{Terms}
use Rattle.apex_rows.specs.declared.query.Cond.{Cond}
use Rattle.apex_rows.specs.declared.query.Cond.TheVariants.{All, Any, Not, Compare, Within, rolls-All, rolls-Any, rolls-Not, rolls-Compare, rolls-Within}
use Rattle.apex_rows.specs.declared.query.Cond.TheFolds.{fold-roll-Cond}
use Rattle.apex_rows.specs.declared.query.Cond.TheOpen.{Cond-F}
use Rattle.row_meaning.specs.Cells.{compares}
use Rattle.row_meaning.specs.Conds.{holds_step, holds, own_step, is_local, term_value, terms_values, within}
use Rattle.row_conditions.specs.Keys.{has, AreKeysOf}
use Rattle.row_conditions.specs.declared.prepared.PreparedCond.{PreparedCond}
use Rattle.row_conditions.specs.declared.prepared.PreparedCond.TheVariants as ThePrepared
use Rattle.row_conditions.specs.declared.prepared.PreparedCond.TheFolds.{fold-roll-PreparedCond}
use Rattle.row_conditions.specs.declared.prepared.PreparedCond.TheOpen.{PreparedCond-F}
use Rattle.row_conditions.specs.Prepared.{prepared_step, prepared_holds}

any_map : {A : Type 0} (f : A → Bool) (cs : List A) → list_any (λ b. b) (map f cs) ≡ list_any f cs
any_map f [] = refl
any_map f (c ∷ cs) = ap (λ t. f c || t) (any_map f cs)

all_map : {A : Type 0} (f : A → Bool) (cs : List A) → list_all (λ b. b) (map f cs) ≡ list_all f cs
all_map f [] = refl
all_map f (c ∷ cs) = ap (λ t. f c && t) (all_map f cs)

module _ (value : Path → Cell) where
  all_parts : (ps : List PreparedCond) → prepared_holds value (ThePrepared.All ps) ≡ list_all (λ b. b) (map (prepared_holds value) ps)
  all_parts ps = ap (prepared_holds value) (sym (ThePrepared.rolls-All ps)) ∙ fold-roll-PreparedCond Bool (prepared_step value) (PreparedCond-F.All ps)

  any_parts : (ps : List PreparedCond) → prepared_holds value (ThePrepared.Any ps) ≡ list_any (λ b. b) (map (prepared_holds value) ps)
  any_parts ps = ap (prepared_holds value) (sym (ThePrepared.rolls-Any ps)) ∙ fold-roll-PreparedCond Bool (prepared_step value) (PreparedCond-F.Any ps)

  pub all_prepared : (ps : List PreparedCond) → prepared_holds value (ThePrepared.All ps) ≡ list_all (prepared_holds value) ps
  all_prepared ps = all_parts ps ∙ all_map (prepared_holds value) ps

  pub any_prepared : (ps : List PreparedCond) → prepared_holds value (ThePrepared.Any ps) ≡ list_any (prepared_holds value) ps
  any_prepared ps = any_parts ps ∙ any_map (prepared_holds value) ps

  module _ (binds : List Bind) (ps : List PreparedCond) (cs : List Cond) (same : map (prepared_holds value) ps ≡ map (holds binds value) cs) where
    pub is_all : prepared_holds value (ThePrepared.All ps) ≡ holds binds value (All cs)
    is_all = all_parts ps ∙ ap (list_all (λ b. b)) same ∙ sym (ap (holds binds value) (sym (rolls-All cs)) ∙ fold-roll-Cond Bool (holds_step binds value) (Cond-F.All cs))

    pub is_any : prepared_holds value (ThePrepared.Any ps) ≡ holds binds value (Any cs)
    is_any = any_parts ps ∙ ap (list_any (λ b. b)) same ∙ sym (ap (holds binds value) (sym (rolls-Any cs)) ∙ fold-roll-Cond Bool (holds_step binds value) (Cond-F.Any cs))

  module _ (binds : List Bind) where
    pub is_not : (p : PreparedCond) (c : Cond) → prepared_holds value p ≡ holds binds value c → prepared_holds value (ThePrepared.Not p) ≡ holds binds value (Not c)
    is_not p c h =
        ap (prepared_holds value) (sym (ThePrepared.rolls-Not p)) ∙ fold-roll-PreparedCond Bool (prepared_step value) (PreparedCond-F.Not p) ∙ ap not h
        ∙ sym (ap (holds binds value) (sym (rolls-Not c)) ∙ fold-roll-Cond Bool (holds_step binds value) (Cond-F.Not c))

    pub is_compare : (at path : Path) (op : CondOp) (cell : Cell) (term : Term) → at ≡ path → cell ≡ term_value binds term →
        prepared_holds value (ThePrepared.Compare at op cell) ≡ holds binds value (Compare path op term)
    is_compare at path op cell term e h =
        ap (prepared_holds value) (sym (ThePrepared.rolls-Compare at op cell)) ∙ fold-roll-PreparedCond Bool (prepared_step value) (PreparedCond-F.Compare at op cell)
        ∙ ap (λ p. compares op (value p) cell) e ∙ ap (compares op (value path)) h
        ∙ sym (ap (holds binds value) (sym (rolls-Compare path op term)) ∙ fold-roll-Cond Bool (holds_step binds value) (Cond-F.Compare path op term))

    pub is_within : (at path : Path) (negated : Bool) (keys : List Cell) (terms : Terms) → at ≡ path → AreKeysOf (terms_values binds terms) keys →
        prepared_holds value (ThePrepared.Within at negated keys) ≡ holds binds value (Within path negated terms)
    is_within at path negated keys terms e h =
        ap (prepared_holds value) (sym (ThePrepared.rolls-Within at negated keys)) ∙ fold-roll-PreparedCond Bool (prepared_step value) (PreparedCond-F.Within at negated keys)
        ∙ ap (λ p. within negated (has keys (value p))) e ∙ ap (within negated) (h (value path))
        ∙ sym (ap (holds binds value) (sym (rolls-Within path negated terms)) ∙ fold-roll-Cond Bool (holds_step binds value) (Cond-F.Within path negated terms))

pub local_All : (cs : List Cond) → is_local (All cs) ≡ list_all is_local cs
local_All cs = ap is_local (sym (rolls-All cs)) ∙ fold-roll-Cond Bool own_step (Cond-F.All cs) ∙ all_map is_local cs

pub local_Any : (cs : List Cond) → is_local (Any cs) ≡ list_all is_local cs
local_Any cs = ap is_local (sym (rolls-Any cs)) ∙ fold-roll-Cond Bool own_step (Cond-F.Any cs) ∙ all_map is_local cs

pub ok_same : {E : Type 0} (r : Result Bool E) (a b : Bool) → a ≡ b → IfOk r (λ found. found ≡ a) → IfOk r (λ found. found ≡ b)
ok_same (Ok found) a b e h = h ∙ e
ok_same (Err x) a b e h = tt

-- one more
pub each_more : {A B : Type 0} (f : A → Bool) (g : B → Bool) (xs more : List A) (x : A) (ys : List B) (i : ℕ) (y : B) → i < length ys → y ≡ get_or ys i y → more ≡ xs ++ x ∷ [] → f x ≡ g y →
    map f xs ≡ map g (take i ys) → map f more ≡ map g (take (i + 1) ys)
each_more f g xs more x ys i y lt is m e h =
    ap (map f) m ∙ map_push f xs x ∙ ap (λ (bs : List Bool). bs ++ f x ∷ []) h ∙ ap (λ b. map g (take i ys) ++ b ∷ []) (e ∙ ap g is)
    ∙ sym (ap (map g) (take_more ys i y lt) ∙ map_push g (take i ys) (get_or ys i y))
