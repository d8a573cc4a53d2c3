-- The list of turns, place by place.
use Rattle.std.proofs.Common.{arith, ◌≡◌, refl, ap, subst, ◌∙◌, ℕ, zero, suc, ◌+◌, ◌<◌, ◌≤◌, List, [], ◌∷◌, drop, get_or, length, map, Option}
use Rattle.std.specs.Prelude.{Result, Ok, Err, OnOk}
use Rattle.session_turns.specs.declared.attempt.Standing.{Standing}
use Rattle.tenant_shards.specs.Shards.{Shared}
use Rattle.turn_lists.specs.declared.turn.Turn.{Turn}
use Rattle.legal_trails.specs.Served.{Pick}
use Rattle.attempt_run.specs.Picks.{pick_of}
use Rattle.attempt_run.specs.Stages.{RunsOutOn, ServesOn}
use Rattle.attempt_run.specs.declared.plan.Plan.{Plan}
use Rattle.attempt_run.proofs.Serving.{IsListed, listed_out}

drop_next : (k : ℕ) (ts : List Turn) (d : Turn) → k < length ts → drop k ts ≡ get_or ts k d ∷ drop (suc k) ts
drop_next k [] d lt = absurd (omega (arith, lt))
drop_next zero (t ∷ ts) d lt = refl
drop_next (suc k) (t ∷ ts) d lt = drop_next k ts d (omega (arith, lt))

pub next_listed : (k : ℕ) (ts : List Turn) (d : Turn) → k < length ts → map pick_of (drop k ts) ≡ pick_of (get_or ts k d) ∷ map pick_of (drop (k + 1) ts)
next_listed k ts d lt = let next : suc k ≡ k + 1 = omega arith in ap (map pick_of) (drop_next k ts d lt ∙ ap (λ m. get_or ts k d ∷ drop m ts) next)

drop_all : (k : ℕ) (ts : List Turn) → length ts ≤ k → drop k ts ≡ []
drop_all zero [] le = refl
drop_all (suc k) [] le = refl
drop_all zero (t ∷ ts) le = absurd (omega (arith, le))
drop_all (suc k) (t ∷ ts) le = drop_all k ts (omega (arith, le))

pub all_listed : {E : Type 0} (r : Result Unit E) (plans : List (Option Plan)) (turns : List Pick) (first all later : List (List Standing)) (start shard after : Shared) (k : ℕ) (ts : List Turn) → k ≤ length ts → length ts ≤ k →
    IsListed plans turns (map pick_of (drop k ts)) first start all shard → OnOk r (RunsOutOn plans all shard later after) → OnOk r (ServesOn plans turns first start later after)
all_listed (Ok x) plans turns first all later start shard after k ts least most w out =
    listed_out plans turns first all later start shard after (subst (λ rest. IsListed plans turns rest first start all shard) (ap (map pick_of) (drop_all k ts most)) w) out
all_listed (Err x) plans turns first all later start shard after k ts least most w out = tt
