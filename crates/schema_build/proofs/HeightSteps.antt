-- Whether chains of masters end, with one step more each time.
use Rattle.std.specs.Prelude.{◌≡◌, ℕ, suc, ◌&&◌, Bool, List, [], ◌∷◌, map, option_map, slice_get, Option, None, Some}
use Rattle.std.proofs.Common.{refl, ap, ◌∙◌}
use Rattle.std.proofs.lemmas.Option.{slice_get-map}
use Rattle.std.specs.List.{list_all}
use Rattle.schema_build.specs.Lookups.{true_or, flag_at}
use Rattle.schema_plans.specs.Plans.{is_empty, or_empty, all_end_within}

all_same : (f g : ℕ → Bool) → ((n : ℕ) → f n ≡ g n) → (ns : List ℕ) → list_all f ns ≡ list_all g ns
all_same f g h [] = refl
all_same f g h (n ∷ ns) = ap (λ b. b && list_all f ns) (h n) ∙ ap (λ b. g n && b) (all_same f g h ns)

empty_of : (o : Option (List ℕ)) → true_or (option_map is_empty o) ≡ is_empty (or_empty o)
empty_of None = refl
empty_of (Some ns) = refl

all_of : (f : ℕ → Bool) (o : Option (List ℕ)) → true_or (option_map (list_all f) o) ≡ list_all f (or_empty o)
all_of f None = refl
all_of f (Some ns) = refl

pub at_once : (ms : List (List ℕ)) (flags : List Bool) → flags ≡ map is_empty ms → (n : ℕ) → flag_at flags n ≡ all_end_within ms 0 n
at_once ms flags e n = ap (λ l. flag_at l n) e ∙ ap true_or (slice_get-map is_empty ms n) ∙ empty_of (slice_get ms n)

pub one_step_more : (ms : List (List ℕ)) (flags next : List Bool) (k : ℕ) → ((n : ℕ) → flag_at flags n ≡ all_end_within ms k n) → next ≡ map (list_all (flag_at flags)) ms → (n : ℕ) → flag_at next n ≡ all_end_within ms (suc k) n
one_step_more ms flags next k h e n =
    ap (λ l. flag_at l n) e ∙ ap true_or (slice_get-map (list_all (flag_at flags)) ms n) ∙ all_of (flag_at flags) (slice_get ms n) ∙ all_same (flag_at flags) (all_end_within ms k) h (or_empty (slice_get ms n))
