-- What words are.
use Rattle.std.proofs.Common.{◌≡◌, sym, ap, ◌∙◌, ℕ, ◌≤◌, ◌<◌, true, false, Bool, List, [], ◌∷◌, length, get_or, map, arith}
use Rattle.std.specs.Prelude.{MatchBool, bytes_eq, codes}
use Rattle.std.proofs.lemmas.Slice.Eq.{bytes_eq-Decides}
use Rattle.turn_lists.specs.Lists.{ListsTurns}
use Rattle.commands.specs.Words.{IsExec}

true_false : true ≡ false → ⊥
true_false e = cc

abbrev first_of : List (List ℕ) → List ℕ
first_of [] = []
first_of (w ∷ ws) = w

-- the single word that is compared
pub one_word : {X : Type 0} (f : X → List ℕ) (words : List X) (w : X) → 1 ≤ length words → length words < 2 → w ≡ get_or words 0 w → (b : Bool) → b ≡ bytes_eq (f w) (codes "exec") → MatchBool b (IsExec (map f words)) (IsExec (map f words) → ⊥)
one_word f [] w low high at b is = absurd (omega (arith, low))
one_word f (x ∷ y ∷ ws) w low high at b is = absurd (omega (arith, high))
one_word f (x ∷ []) w low high at true is = ap (λ v. v ∷ []) (ap f (sym at) ∙ (bytes_eq-Decides (f w) (codes "exec")).0 (sym is))
one_word f (x ∷ []) w low high at false is = λ e. true_false (sym ((bytes_eq-Decides (f w) (codes "exec")).1 (ap f at ∙ ap first_of e)) ∙ sym is)

-- a single word lists no turns
pub exec_lists_none : (words : List (List ℕ)) → IsExec words → ListsTurns words → ⊥
exec_lists_none [] e l = absurd l.1
exec_lists_none (w ∷ []) e l = absurd l.1
exec_lists_none (w ∷ v ∷ ws) e l = more e where
  more : w ∷ v ∷ ws ≡ codes "exec" ∷ [] → ⊥
  more e = cc
