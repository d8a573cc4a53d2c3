use Rattle.std.proofs.Common.{◌≡◌, ℕ, Bool, take}
use Rattle.std.specs.Prelude.{◌||◌}
use Rattle.delete_cascades.specs.Layers.{has_place, marked}
use Rattle.delete_cascades.proofs.level.mark_all.Given as goal

abbrev pub invariant-loop-i : goal.invariant-loop-i
invariant-loop-i l =
    (test : ℕ → Bool) → l.initial.found.entries ≡ marked test 0 l.rows → l.found.entries ≡ marked (λ n. test n || has_place (take l.i l.places) n) 0 l.rows
