-- A trigger that fires takes the weight down: its step pays for what it runs, and for the save that goes on behind it.
use Rattle.std.proofs.Common.{◌≡◌, ℕ, ◌+◌, ◌*◌, ◌≤◌, Bool, true, false, List, refl, arith}
use Rattle.std.proofs.lemmas.Bool.{leb-true}
use Rattle.std.specs.Prelude.{leb}
use Rattle.apex_num.specs.declared.kind.LimitKind.TheVariants as K
use Rattle.apex_requests.specs.declared.request.Context.{Context}
use Rattle.limit_meter.specs.Charges.{count_of, limit_of}
use Rattle.save_meaning.specs.Sites.{Site}
use Rattle.save_measures.specs.Paid.{IsPaid}
use Rattle.save_statements.specs.declared.run.SaveRun.{SaveRun}
use Rattle.trigger_things.specs.Things.{copy_units}
use Rattle.stack_code.specs.Machine.{Goes, charged, charged_if}
use Rattle.stack_code.specs.Steps.{fire_next, fired_on}
use Rattle.stack_code.specs.declared.image.Image.{Image}
use Rattle.stack_code.specs.declared.state.BodyAt.TheVariants as B
use Rattle.stack_code.specs.declared.state.Config.{Config}
use Rattle.stack_code.specs.declared.state.World.{World}
use Rattle.program_weights.specs.Keeps.{Falls, Stands}
use Rattle.program_weights.specs.Weights.{frame_load, left, round, waiting_load}
use Rattle.program_weights.proofs.Codes.{at_le}
use Rattle.program_weights.proofs.Frames.{once}
use Rattle.program_weights.proofs.Lefts.{charged_left, charged_paid, charging, step_left}

module _ (site : Site) (image : Image) (places : List ℕ) (run : SaveRun) (n : ℕ) (fires : Context) (c : Config) (stands : Stands image c) where
  -- the weight of a save
  abbrev N : ℕ
  N = left image c.world * round image + ((frame_load image c.top + 2) + waiting_load image c.below)

  abbrev in_world : World → Config
  in_world w = record c { world = w }

  -- its frame is there
  entered : (v : World) → IsPaid v.txn → left image v + 1 ≤ left image c.world → Falls image N (Goes (fired_on site image places run n fires (in_world v)))
  entered v p le =
      let r = at_le image (B.Trigger n) 0 in
      let s = once (left image v) (left image c.world) (round image) le in
      (record { checked = stands.checked; top = tt; below = (stands.top, stands.below); paid = p }, omega arith)

  by_units : (v : World) → IsPaid v.txn → left image v + 1 ≤ left image c.world → (b : Bool) → Falls image N (charged_if b K.Alloc (copy_units site.schema fires) (in_world v) (λ f. Goes (fired_on site image places run n fires f)))
  by_units v p le true =
      let units = copy_units site.schema fires in
      let l = charged_left image K.Alloc units v p in
      entered (charging K.Alloc units v) (charged_paid K.Alloc units v p) (omega arith)
  by_units v p le false = tt

  by_steps : (v : World) → IsPaid v.txn → left image v ≤ left image c.world → (b : Bool) → leb (count_of v.txn.meter K.Steps + 1) (limit_of K.Steps) ≡ b →
      Falls image N (charged_if b K.Steps 1 (in_world v) (λ e. charged K.Alloc (copy_units site.schema fires) e (λ f. Goes (fired_on site image places run n fires f))))
  by_steps v p le true e =
      let s = step_left image v p (leb-true (count_of v.txn.meter K.Steps + 1) (limit_of K.Steps) e) in
      let w = charging K.Steps 1 v in
      by_units w (charged_paid K.Steps 1 v p) (omega arith) (leb (count_of w.txn.meter K.Alloc + copy_units site.schema fires) (limit_of K.Alloc))
  by_steps v p le false e = tt

  by_depth : (b : Bool) → Falls image N (charged_if b K.Depth 1 c (λ d. charged K.Steps 1 d (λ e. charged K.Alloc (copy_units site.schema fires) e (λ f. Goes (fired_on site image places run n fires f)))))
  by_depth true =
      let w = charging K.Depth 1 c.world in
      by_steps w (charged_paid K.Depth 1 c.world stands.paid) (charged_left image K.Depth 1 c.world stands.paid) (leb (count_of w.txn.meter K.Steps + 1) (limit_of K.Steps)) refl
  by_depth false = tt

  pub fire_falls : Falls image N (fire_next site image places run n fires c)
  fire_falls = by_depth (leb (count_of c.world.txn.meter K.Depth + 1) (limit_of K.Depth))
