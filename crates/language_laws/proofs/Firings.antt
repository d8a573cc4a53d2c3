-- The code around a save is orderly, where the ways back in are paid for: a firing pays for what it runs.
use Rattle.std.proofs.Common.{ℕ, suc, [], ◌++◌, length, refl}
use Rattle.activations.specs.declared.abrupt.Abrupt.TheVariants.{Throws, Returns, Breaks, Continues}
use Rattle.apex_num.specs.declared.kind.LimitKind.TheVariants.{Depth, Alloc}
use Rattle.apex_requests.specs.declared.request.Context.{Context}
use Rattle.request_states.specs.Runs.{Setting}
use Rattle.request_states.specs.States.{State, World, Res, keeps, with_heap}
use Rattle.save_meaning.specs.Results.{Gives, Stops, Leaves, Closes}
use Rattle.save_meaning.specs.Transactions.{charge}
use Rattle.trigger_things.specs.Lefts.{closed}
use Rattle.trigger_things.specs.Things.{at, copy_units, own_rows, things, this_place}
use Rattle.txn_heap.specs.declared.thing.Value.{Value}
use Rattle.apex_meaning.specs.Firings as F
use Rattle.apex_meaning.specs.Firings.{code_of}
use Rattle.apex_meaning.specs.Meanings.{Again, Trigger}
use Rattle.language_laws.proofs.Classes.{Enough}
use Rattle.language_laws.proofs.Paid.{Comes, Paid, paid_gives, paid_bind, paid_before, paid_charge, paid_step, freely}
use Rattle.language_laws.proofs.Phases.{Orderly}
use Rattle.language_laws.proofs.Worlds.{Later, later_kept, later_left, later_on, left_depth}

module _ (setting : Setting) (again : Again) (p : ℕ) (enough : Enough setting.program again p) where
  -- ---- a firing is over: one less is open, and what it charged stays charged

  over_later : (count place : ℕ) (w : World) (st : State) → Later setting.program w st.world → Later setting.program w (F.over setting again count place st).world
  over_later count place w st l =
      let closes = with_heap (closed count place st.world.heap) st in
      let k = later_kept setting.program st.world closes.world l.sound refl refl refl in
      later_on setting.program _ _ _ l (later_on setting.program _ _ _ k (later_left setting.program closes.world Depth left_depth k.sound))

  comes_out : (count place : ℕ) (w : World) (res : Res Value) → Comes setting.program w res → Comes setting.program w (F.comes_out setting again count place res)
  comes_out count place w (Gives v st) c = record { holds = over_later count place w st c.holds }
  comes_out count place w (Stops (Leaves (Throws r)) st) c = record { holds = over_later count place w st c.holds }
  comes_out count place w (Stops (Leaves (Returns v)) st) c = record { holds = over_later count place w st c.holds }
  comes_out count place w (Stops (Leaves Breaks) st) c = record { holds = over_later count place w st c.holds }
  comes_out count place w (Stops (Leaves Continues) st) c = record { holds = over_later count place w st c.holds }
  comes_out count place w (Stops (Closes end) st) c = record { holds = c.holds }

  -- ---- its code runs on its things

  runs_on : (n : ℕ) (c : Context) (place : ℕ) → Paid setting.program p (λ st. again.body (Trigger n) [] (at (this_place place c)) (with_heap (st.world.heap ++ things place c) st))
  runs_on n c place =
      paid_before setting.program p (λ st. with_heap (st.world.heap ++ things place c) st) (again.body (Trigger n) [] (at (this_place place c)))
      (λ st h. later_kept setting.program st.world _ h refl refl refl) (enough.body (Trigger n) [] (at (this_place place c)))

  fires_on : (n : ℕ) (c : Context) (place : ℕ) → Paid setting.program p (F.fires_on setting again n c place)
  fires_on n c place = record { at = λ st h lt. comes_out (length (own_rows c)) place st.world _ ((runs_on n c place).at st h lt) }

  -- the step of a firing pays for what it runs
  paid_fire : (n : ℕ) (c : Context) → Paid setting.program (suc p) (F.fire setting again n c)
  paid_fire n c =
      paid_bind setting.program (suc p) (charge keeps Depth 1) _ (paid_charge setting.program (suc p) Depth 1 (freely setting.program))
      (λ u. paid_step setting.program p _
      (paid_bind setting.program p (charge keeps Alloc (copy_units setting.schema c)) _ (paid_charge setting.program p Alloc (copy_units setting.schema c) (freely setting.program))
      (λ u2. record { at = λ st h lt. (fires_on n c (length st.world.heap)).at st h lt })))

  pub orderly : Orderly setting.program (suc p) (code_of setting again)
  orderly = record { fires = paid_fire; rolls = λ object rs. paid_gives setting.program (suc p) (λ s. rs) }
