-- The turns of a list, and those behind it.
use Rattle.std.proofs.Common.{◌≡◌, refl, sym, ap, subst, ◌∙◌, ℕ, zero, suc, Bool, true, false, List, [], ◌∷◌, cond, Option, None, Some}
use Rattle.std.specs.Prelude.{slice_get}
use Rattle.legal_trails.specs.Served.{Pick, RunsOut, Serves, ServesBy, Stage, TurnsAt, first_pick, picked}
use Rattle.session_turns.specs.declared.attempt.Standing.{Standing}
use Rattle.tenant_shards.specs.Shards.{Shared}
use Rattle.attempt_run.specs.Picks.{first_of_all, picked_by, unfinished_in}
use Rattle.attempt_run.specs.Stages.{ArePlaced, HasStage, RunsOutOn, ServesOn, TurnsListed, TurnsOn}
use Rattle.attempt_run.specs.declared.plan.Plan.{Plan}
use Rattle.attempt_run.proofs.Lists.{none_some}
use Rattle.attempt_run.proofs.Picking.{same_first, same_picked}

module _ (plans : List (Option Plan)) where
  -- ---- behind the list

  -- some turns were made, whatever comes behind
  abbrev pub IsOnTheWay : List (List Standing) → Shared → List (List Standing) → Shared → Type 0
  IsOnTheWay first start all shard =
      (stage : Stage) → ArePlaced 0 plans first start stage → (mid : Stage) × ArePlaced 0 plans all shard mid
      × ((n : ℕ) (picks : List Pick) (after : Stage) → RunsOut n mid picks after → (m : ℕ) × (more : List Pick) × RunsOut m stage more after)

  pub out_first : (first : List (List Standing)) (start : Shared) → IsOnTheWay first start first start
  out_first first start stage h = (stage, h, λ n picks after r. (n, picks, r))

  pub out_more : (first all later : List (List Standing)) (start shard after : Shared) (pick : Pick) → IsOnTheWay first start all shard → first_of_all 0 plans all ≡ Some pick → TurnsOn plans pick all shard later after → IsOnTheWay first start later after
  out_more first all later start shard after pick w e turned stage h =
      let v = w stage h in
      let t = turned v.0 v.1 in (
        t.0,
        t.2,
        λ n picks end r. v.2 (suc n) (pick ∷ picks) end (pick, same_first 0 0 plans all shard v.0 v.1 ∙ e, t.0, picks, t.1, r, refl),
      )

  pub out_end : (first all : List (List Standing)) (start shard : Shared) → IsOnTheWay first start all shard → first_of_all 0 plans all ≡ None → RunsOutOn plans first start all shard
  out_end first all start shard w e stage h =
      let v = w stage h in
      let r = v.2 0 [] v.0 (same_first 0 0 plans all shard v.0 v.1 ∙ e, refl, refl) in
      (r.0, r.1, v.0, r.2, v.1)

  -- where its stage is there, so is that behind
  pub has_stage : (first all : List (List Standing)) (start shard : Shared) → IsOnTheWay first start all shard → HasStage plans first start → HasStage plans all shard
  has_stage first all start shard w h = let v = w h.0 h.1 in (v.0, v.1)

  -- the last of them finds no session
  over : (n : ℕ) (stage : Stage) (picks : List Pick) (after : Stage) → RunsOut n stage picks after → first_pick 0 after ≡ None
  over zero stage picks after r = ap (first_pick 0) r.2 ∙ r.0
  over (suc n) stage picks after r = over n r.2 r.3 after r.5

  -- ---- the list

  abbrev pub IsListed : List Pick → List Pick → List (List Standing) → Shared → List (List Standing) → Shared → Type 0
  IsListed turns rest first start all shard =
      (stage : Stage) → ArePlaced 0 plans first start stage → (mid : Stage) × ArePlaced 0 plans all shard mid
      × ((picks : List Pick) (after : Stage) → Serves rest mid picks after → (more : List Pick) × Serves turns stage more after)

  pub listed_first : (turns : List Pick) (first : List (List Standing)) (start : Shared) → IsListed turns turns first start first start
  listed_first turns first start stage h = (stage, h, λ picks after s. (picks, s))

  pub has_listed : (turns rest : List Pick) (first all : List (List Standing)) (start shard : Shared) → IsListed turns rest first start all shard → HasStage plans first start → HasStage plans all shard
  has_listed turns rest first all start shard w h = let v = w h.0 h.1 in (v.0, v.1)

  some_turn : (o : Option Pick) (pick : Pick) (rest : List Pick) (mid next : Stage) (picks : List Pick) (after : Stage) → o ≡ Some pick → TurnsAt pick mid next → Serves rest next picks after → ServesBy o mid (pick ∷ picks) after (λ m ps. Serves rest m ps after)
  some_turn o pick rest mid next picks after e t s = subst (λ x. ServesBy x mid (pick ∷ picks) after (λ m ps. Serves rest m ps after)) (sym e) (next, picks, t, s, refl)

  no_turn : (o : Option Pick) (rest : List Pick) (mid : Stage) → o ≡ None → ServesBy o mid [] mid (λ m ps. Serves rest m ps mid)
  no_turn o rest mid e = subst (λ x. ServesBy x mid [] mid (λ m ps. Serves rest m ps mid)) (sym e) (refl, refl)

  pub listed_more : (turns rest : List Pick) (turn : Pick) (first all later : List (List Standing)) (start shard after : Shared) → IsListed turns (turn ∷ rest) first start all shard → TurnsListed plans turn all shard later after true → IsListed turns rest first start later after
  listed_more turns rest turn first all later start shard after w t stage h =
      let v = w stage h in
      let next = t.2 v.0 v.1 in (
        next.0,
        next.2,
        λ picks end s. v.2 (t.0 ∷ picks) end (some_turn (picked v.0 turn) t.0 rest v.0 next.0 picks end (same_picked plans all shard v.0 turn v.1 ∙ t.1) next.1 s),
      )

  none_picked : (all : List (List Standing)) (turn : Pick) → picked_by plans all turn ≡ None → first_of_all 0 plans all ≡ None
  none_picked all turn e = by (unfinished_in (slice_get plans turn.0) (slice_get all turn.0) turn.1) e where
    by : (b : Bool) → cond b (Some turn) (first_of_all 0 plans all) ≡ None → first_of_all 0 plans all ≡ None
    by true q = absurd (none_some (sym q))
    by false q = q

  pub listed_none : (turns rest : List Pick) (turn : Pick) (first all later : List (List Standing)) (start shard after : Shared) → IsListed turns (turn ∷ rest) first start all shard → TurnsListed plans turn all shard later after false → ServesOn plans turns first start later after
  listed_none turns rest turn first all later start shard after w t stage h =
      let v = w stage h in
      let r = v.2 [] v.0 (no_turn (picked v.0 turn) rest v.0 (same_picked plans all shard v.0 turn v.1 ∙ t.0)) in (
        r.0,
        v.0,
        r.1,
        subst (λ x. ArePlaced 0 plans x after v.0) (sym t.1) (subst (λ x. ArePlaced 0 plans all x v.0) (sym t.2) v.1),
        same_first 0 0 plans all shard v.0 v.1 ∙ none_picked all turn t.0,
      )

  pub listed_out : (turns : List Pick) (first all later : List (List Standing)) (start shard after : Shared) → IsListed turns [] first start all shard → RunsOutOn plans all shard later after → ServesOn plans turns first start later after
  listed_out turns first all later start shard after w out stage h =
      let v = w stage h in
      let o = out v.0 v.1 in
      let r = v.2 o.1 o.2 (o.0, o.3) in
      (r.0, o.2, r.1, o.4, over o.0 v.0 o.1 o.2 o.3)
