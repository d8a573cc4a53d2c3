-- Each step of a checked image's machine takes the weight down.
use Rattle.std.proofs.Common.{◌≡◌, ℕ, ◌+◌, ◌*◌, ◌≤◌, true, false, cond, List, [], ◌∷◌, length, drop, pos, Option, Some, None, refl, sym, subst, arith, le_refl}
use Rattle.std.specs.Prelude.{slice_get}
use Rattle.activations.specs.declared.abrupt.Abrupt.{Abrupt}
use Rattle.activations.specs.declared.abrupt.Abrupt.TheVariants.{Throws, Returns, Breaks, Continues}
use Rattle.activations.specs.declared.abrupt.Raised.TheVariants.{Platform, Made}
use Rattle.activations.specs.declared.here.Here.{Here}
use Rattle.request_states.specs.Values.{null}
use Rattle.request_states.specs.Statements.{records_of}
use Rattle.apex_num.specs.declared.cell.Cell.TheVariants as C
use Rattle.apex_rows.specs.declared.query.Bind.{Bind}
use Rattle.apex_schema.specs.declared.schema.Schema.{Schema}
use Rattle.heap_methods.specs.Making.{copied}
use Rattle.apex_meaning.specs.Collections.{collection, items_of, message_among}
use Rattle.apex_meaning.specs.Exceptions.{is_built_in}
use Rattle.apex_meaning.specs.Queries.{Bound, Has, Throws as Fails, all_bound}
use Rattle.apex_meaning.specs.Records.{children_in, only, parent_in}
use Rattle.platform_errors.specs.declared.thrown.Thrown.TheVariants.{NullObject}
use Rattle.query_meaning.specs.Queries.{Answered, Counted, Listed}
use Rattle.query_moves.specs.Moves as Query
use Rattle.query_moves.specs.declared.run.QueryRun.{QueryRun}
use Rattle.query_records.specs.Records.{records_made}
use Rattle.query_records.specs.declared.shape.FoundShape.{FoundShape}
use Rattle.save_meaning.specs.Sites.{Site}
use Rattle.save_meaning.specs.declared.run.TxnState.{TxnState}
use Rattle.save_measures.specs.Paid.{IsPaid}
use Rattle.txn_heap.specs.declared.thing.Thing.{Thing}
use Rattle.txn_heap.specs.declared.thing.Thing.TheVariants as T
use Rattle.txn_heap.specs.declared.thing.Value.{Value}
use Rattle.txn_heap.specs.declared.thing.Value.TheVariants.{Plain, Object}
use Rattle.value_operators.specs.Operators.{converted, negated, truth}
use Rattle.stack_code.specs.Checked.{IsChecked, is_charging}
use Rattle.stack_code.specs.Machine.{Next, Goes, Asks, Over, in_mode, instrs_at, move, next, raise, taken, with_heap, with_txn}
use Rattle.stack_code.specs.Steps.{act, answered_by, query_next, querying, save_next, step, step_in, thrown}
use Rattle.stack_code.specs.Things.{is_declared}
use Rattle.stack_code.specs.declared.code.Instr.{Instr}
use Rattle.stack_code.specs.declared.code.Instr.TheVariants as I
use Rattle.stack_code.specs.declared.image.Image.{Image}
use Rattle.stack_code.specs.declared.state.After.TheVariants as A
use Rattle.stack_code.specs.declared.state.BodyAt.{BodyAt}
use Rattle.stack_code.specs.declared.state.BodyAt.TheVariants as B
use Rattle.stack_code.specs.declared.state.Config.{Config}
use Rattle.stack_code.specs.declared.state.Handler.{Handler}
use Rattle.stack_code.specs.declared.state.Mode.{Mode}
use Rattle.stack_code.specs.declared.state.Mode.TheVariants as M
use Rattle.stack_code.specs.declared.state.Waiting.{Waiting}
use Rattle.stack_code.specs.declared.state.World.{World}
use Rattle.program_weights.specs.Keeps.{AreOpen, AreWaiting, Falls, Stands}
use Rattle.program_weights.specs.Weights.{begun, frame_load, handlers_load, left, round, top_load, waiting_load, weight}
use Rattle.program_weights.proofs.Codes.{free_at, full_some, later}
use Rattle.program_weights.proofs.Controls as Does
use Rattle.program_weights.proofs.Leaving.{leaving_falls}
use Rattle.program_weights.proofs.Lefts.{pays}
use Rattle.program_weights.proofs.Places.{leaves, leaves_end, leaves_free, next_free, raise_free, start}
use Rattle.program_weights.proofs.Queries.{Charged, Only, move_more, only_paid}
use Rattle.program_weights.proofs.Values as V
use Rattle.program_weights.proofs.Values.{Kept, running}

module _ (site : Site) (image : Image) (checked : IsChecked image) (body : BodyAt) (pc : ℕ) (hs : List Handler) (ws : List Waiting) (w0 : World) (a : AreWaiting image ws) (o : AreOpen (instrs_at image body) hs) (paid : IsPaid w0.txn) where
  abbrev instrs : List Instr
  instrs = instrs_at image body

  abbrev N : ℕ
  N = start image checked body pc hs ws w0 a

  abbrev L : ℕ
  L = left image w0

  kept : Kept image L w0
  kept = (paid, le_refl (left image w0))

  goes : (i : Instr) → slice_get instrs pc ≡ Some i → is_charging i ≡ false → (here : Here) (s stack : List Value) (w : World) → Kept image L w → Falls image N (next (running body pc hs ws here s w) stack)
  goes i e f = next_free image checked body pc hs ws w0 a o i e f

  raises : (i : Instr) → slice_get instrs pc ≡ Some i → is_charging i ≡ false → (t : _) (here : Here) (s : List Value) (w : World) → Kept image L w → Falls image N (raise t (running body pc hs ws here s w))
  raises i e f = raise_free image checked body pc hs ws w0 a o i e f

  -- code is left
  left_falls : (i : Instr) → slice_get instrs pc ≡ Some i → is_charging i ≡ false → (why : Abrupt) (here : Here) → Falls image N (Goes (leaves body pc hs ws why here [] w0))
  left_falls i e f why here = leaves_free image checked body pc hs ws w0 a i e f hs o (omega arith) why pc here [] w0 kept

  thrown_falls : slice_get instrs pc ≡ Some I.Throw → (v : Value) (here : Here) (s : List Value) → Falls image N (thrown v (running body pc hs ws here s w0))
  thrown_falls e (Plain k) here s = left_falls I.Throw e refl (Throws (Platform NullObject)) here
  thrown_falls e (Object r) here s = left_falls I.Throw e refl (Throws (Made r)) here

  -- ---- queries and saves

  query_falls : (q : _) (kinds : _) → slice_get instrs pc ≡ Some (I.Query q kinds) → (binds : Bound (List Bind)) (here : Here) (s stack : List Value) → Falls image N (query_next q binds (running body pc hs ws here s w0) stack)
  query_falls q kinds e (Fails t) here s stack = raises (I.Query q kinds) e refl t here s w0 kept
  query_falls q kinds e (Has binds) here s stack =
      let x = free_at (begun image) pc instrs (I.Query q kinds) e refl in
      let y = later (begun image) (pc + 1) (pc + 1) instrs (le_refl (pc + 1)) in
      let z = full_some (begun image) (drop (pc + 1) instrs) in
      (record { checked = checked; top = o; below = a; paid = paid }, omega arith)

  save_falls : (op : _) (what : _) → slice_get instrs pc ≡ Some (I.Save op what) → (r : Option (ℕ × List ℕ)) (here : Here) (s stack : List Value) → Falls image N (save_next op r (running body pc hs ws here s w0) stack)
  save_falls op what e None here s stack = leaves_free image checked body pc hs ws w0 a (I.Save op what) e refl hs o (omega arith) (Throws (Platform NullObject)) (pc + 1) here [] w0 kept
  save_falls op what e (Some r) here s stack =
      let x = free_at (begun image) pc instrs (I.Save op what) e refl in
      let y = later (begun image) (pc + 1) (pc + 1) instrs (le_refl (pc + 1)) in
      let z = full_some (begun image) (drop (pc + 1) instrs) in
      (record { checked = checked; top = o; below = a; paid = paid }, omega arith)

  -- ---- one instruction

  act_falls : (i : Instr) → slice_get instrs pc ≡ Some i → (here : Here) (s : List Value) → Falls image N (act site image (Some i) (running body pc hs ws here s w0))
  act_falls (I.Push k) e here s = goes (I.Push k) e refl here s (Plain k ∷ s) w0 kept
  act_falls I.This e here s = goes I.This e refl here s (here.this ∷ s) w0 kept
  act_falls I.Pop e here s = V.top_falls image body pc hs ws L N (goes I.Pop e refl) (raises I.Pop e refl) s _ (λ v rest. goes I.Pop e refl here s rest w0 kept)
  act_falls (I.Convert how) e here s =
      V.top_falls image body pc hs ws L N (goes (I.Convert how) e refl) (raises (I.Convert how) e refl) s _ (λ v rest.
      V.converted_falls image body pc hs ws L N (goes (I.Convert how) e refl) (raises (I.Convert how) e refl) (converted how v) rest here s w0 kept)
  act_falls (I.Negate n) e here s =
      V.top_falls image body pc hs ws L N (goes (I.Negate n) e refl) (raises (I.Negate n) e refl) s _ (λ v rest.
      V.converted_falls image body pc hs ws L N (goes (I.Negate n) e refl) (raises (I.Negate n) e refl) (negated n v) rest here s w0 kept)
  act_falls I.Not e here s =
      V.top_falls image body pc hs ws L N (goes I.Not e refl) (raises I.Not e refl) s _ (λ v rest.
      V.tested_falls image body pc hs ws L N (goes I.Not e refl) (raises I.Not e refl) (truth v) (λ b. Plain (C.Bool (cond b false true))) rest here s w0 kept)
  act_falls (I.Calc l op r) e here s =
      V.top_falls image body pc hs ws L N (goes (I.Calc l op r) e refl) (raises (I.Calc l op r) e refl) s _ (λ u under.
      V.top_falls image body pc hs ws L N (goes (I.Calc l op r) e refl) (raises (I.Calc l op r) e refl) under _ (λ v rest.
      V.operator_falls image body pc hs ws L N (goes (I.Calc l op r) e refl) (raises (I.Calc l op r) e refl) l op r v u rest here s w0 kept))
  act_falls I.Truth e here s =
      V.top_falls image body pc hs ws L N (goes I.Truth e refl) (raises I.Truth e refl) s _ (λ v rest.
      V.tested_falls image body pc hs ws L N (goes I.Truth e refl) (raises I.Truth e refl) (truth v) (λ b. Plain (C.Bool b)) rest here s w0 kept)
  act_falls I.Step e here s = Does.charge_falls image checked body pc hs ws w0 a o paid here s
  act_falls (I.Jump n) e here s = Does.plain_jump_falls image checked body pc hs ws w0 a o paid n e here s
  act_falls (I.Unless n) e here s =
      V.top_falls image body pc hs ws L N (goes (I.Unless n) e refl) (raises (I.Unless n) e refl) s _ (λ v rest. Does.unless_falls image checked body pc hs ws w0 a o paid n e (truth v) here s rest)
  act_falls (I.Both n) e here s =
      V.top_falls image body pc hs ws L N (goes (I.Both n) e refl) (raises (I.Both n) e refl) s _ (λ v rest. Does.both_falls image checked body pc hs ws w0 a o paid n e (truth v) here s rest)
  act_falls (I.Either n) e here s =
      V.top_falls image body pc hs ws L N (goes (I.Either n) e refl) (raises (I.Either n) e refl) s _ (λ v rest. Does.either_falls image checked body pc hs ws w0 a o paid n e (truth v) here s rest)
  act_falls (I.Back n) e here s = Does.back_falls image checked body pc hs ws w0 a o paid n e here s
  act_falls (I.Get slot) e here s = V.get_falls image body pc hs ws L N (goes (I.Get slot) e refl) (raises (I.Get slot) e refl) site.schema slot here s w0 kept
  act_falls (I.Fetch slot) e here s = V.fetch_falls image body pc hs ws L N (goes (I.Fetch slot) e refl) (raises (I.Fetch slot) e refl) site.schema slot here s w0 kept
  act_falls (I.Set slot) e here s = V.set_falls image body pc hs ws L N (goes (I.Set slot) e refl) (raises (I.Set slot) e refl) slot here s w0 kept
  act_falls (I.Store x) e here s = V.top_falls image body pc hs ws L N (goes (I.Store x) e refl) (raises (I.Store x) e refl) s _ (λ v rest. goes (I.Store x) e refl _ s rest w0 kept)
  act_falls (I.Change kind n slot) e here s = V.change_falls image body pc hs ws L N (goes (I.Change kind n slot) e refl) (raises (I.Change kind n slot) e refl) site.schema kind n slot here s w0 kept
  act_falls (I.Prepare k) e here s = Does.prepare_at_falls image checked body pc hs ws w0 a o paid k e here s
  act_falls (I.Builtin which n) e here s =
      V.builtin_falls image body pc hs ws L N (goes (I.Builtin which n) e refl) (raises (I.Builtin which n) e refl) site.ticket which (taken n s []).0 (taken n s []).1 here s w0 kept
  act_falls (I.Filled kind n) e here s = V.filled_falls image body pc hs ws L N (goes (I.Filled kind n) e refl) (raises (I.Filled kind n) e refl) kind (taken n s []).0 (taken n s []).1 here s w0 kept
  act_falls (I.Entries n) e here s = V.make_falls image body pc hs ws L N (goes (I.Entries n) e refl) (raises (I.Entries n) e refl) _ _ (taken (n + n) s []).1 here s w0 kept
  act_falls (I.Copied kind) e here s =
      V.top_falls image body pc hs ws L N (goes (I.Copied kind) e refl) (raises (I.Copied kind) e refl) s _ (λ v rest.
      V.copied_falls image body pc hs ws L N (goes (I.Copied kind) e refl) (raises (I.Copied kind) e refl) (copied (collection kind) v w0.heap) rest here s w0 kept)
  act_falls (I.Exception k n) e here s =
      V.make_falls image body pc hs ws L N (goes (I.Exception k n) e refl) (raises (I.Exception k n) e refl) 32 (T.Exception (record { class = k; message = message_among (taken n s []).0 })) (taken n s []).1 here s w0 kept
  act_falls (I.Cast k) e here s =
      V.top_falls image body pc hs ws L N (goes (I.Cast k) e refl) (raises (I.Cast k) e refl) s _ (λ v rest.
      V.cast_falls image body pc hs ws L N (goes (I.Cast k) e refl) (raises (I.Cast k) e refl) (is_declared image k) v rest here s w0 kept)
  act_falls (I.CastException k) e here s =
      V.top_falls image body pc hs ws L N (goes (I.CastException k) e refl) (raises (I.CastException k) e refl) s _ (λ v rest.
      V.cast_falls image body pc hs ws L N (goes (I.CastException k) e refl) (raises (I.CastException k) e refl) (is_built_in k) v rest here s w0 kept)
  act_falls (I.Record object fields) e here s =
      V.make_falls image body pc hs ws L N (goes (I.Record object fields) e refl) (raises (I.Record object fields) e refl) _ _ (taken (length fields) s []).1 here s w0 kept
  act_falls I.Print e here s =
      V.top_falls image body pc hs ws L N (goes I.Print e refl) (raises I.Print e refl) s _ (λ v rest. V.print_falls image body pc hs ws L N (goes I.Print e refl) (raises I.Print e refl) site v rest here s w0 kept)
  act_falls (I.CallStatic k m n) e here s =
      Does.called_falls image checked body pc hs ws w0 a o paid (I.CallStatic k m n) e refl (B.Method k m) (taken n s []).0 null A.Answered here here (taken n s []).1
  act_falls (I.CallThis k m n) e here s =
      V.top_falls image body pc hs ws L N (goes (I.CallThis k m n) e refl) (raises (I.CallThis k m n) e refl) (taken n s []).1 _ (λ this stack.
      Does.call_this_falls image checked body pc hs ws w0 a o paid (I.CallThis k m n) e refl k m (taken n s []).0 this here stack)
  act_falls (I.Call k m n) e here s =
      V.top_falls image body pc hs ws L N (goes (I.Call k m n) e refl) (raises (I.Call k m n) e refl) (taken n s []).1 _ (λ this stack.
      Does.call_on_falls image checked body pc hs ws w0 a o paid (I.Call k m n) e refl k m (taken n s []).0 this here stack)
  act_falls (I.New k m n) e here s = Does.new_falls image checked body pc hs ws w0 a o paid k m n e (taken n s []).0 (taken n s []).1 here s
  act_falls (I.NewPlain k) e here s = Does.new_plain_falls image checked body pc hs ws w0 a o paid k e s here s
  act_falls (I.Construct k m n) e here s =
      Does.called_falls image checked body pc hs ws w0 a o paid (I.Construct k m n) e refl (B.Constructor k m) (taken n s []).0 here.this A.Constructed here here (taken n s []).1
  act_falls (I.Begin ss) e here s = Does.begin_at_falls image checked body pc hs ws w0 a o paid ss e here s
  act_falls (I.Message n) e here s =
      V.top_falls image body pc hs ws L N (goes (I.Message n) e refl) (raises (I.Message n) e refl) s _ (λ this rest.
      V.told_falls image body pc hs ws L N (goes (I.Message n) e refl) (raises (I.Message n) e refl) this (taken n rest []).0 (this ∷ (taken n rest []).1) here s w0 kept)
  act_falls (I.MessageThis n) e here s =
      V.told_falls image body pc hs ws L N (goes (I.MessageThis n) e refl) (raises (I.MessageThis n) e refl) here.this (taken n s []).0 (taken n s []).1 here s w0 kept
  act_falls (I.SetOwn place) e here s =
      V.top_falls image body pc hs ws L N (goes (I.SetOwn place) e refl) (raises (I.SetOwn place) e refl) s _ (λ v rest.
      V.field_stored_falls image body pc hs ws L N (goes (I.SetOwn place) e refl) (raises (I.SetOwn place) e refl) place here.this v here s w0 (λ d. next d rest) kept (λ x q. goes (I.SetOwn place) e refl here s rest x q))
  act_falls (I.SetStatic k n) e here s =
      V.top_falls image body pc hs ws L N (goes (I.SetStatic k n) e refl) (raises (I.SetStatic k n) e refl) s _ (λ v rest.
      V.set_static_falls image body pc hs ws L N (goes (I.SetStatic k n) e refl) (raises (I.SetStatic k n) e refl) k n v rest here s w0 kept)
  act_falls I.Return e here s = V.top_falls image body pc hs ws L N (goes I.Return e refl) (raises I.Return e refl) s _ (λ v rest. left_falls I.Return e refl (Returns v) here)
  act_falls I.Throw e here s = V.top_falls image body pc hs ws L N (goes I.Throw e refl) (raises I.Throw e refl) s _ (λ v rest. thrown_falls e v here s)
  act_falls I.Break e here s = left_falls I.Break e refl Breaks here
  act_falls I.Continue e here s = left_falls I.Continue e refl Continues here
  act_falls (I.OpenCatch cs) e here s = Does.catch_falls image checked body pc hs ws w0 a o paid cs e here s
  act_falls (I.OpenLast n) e here s = Does.last_falls image checked body pc hs ws w0 a o paid n e here s
  act_falls (I.OpenLoop again out) e here s = Does.loop_falls image checked body pc hs ws w0 a o paid again out e here s
  act_falls (I.OpenEach again out) e here s =
      V.top_falls image body pc hs ws L N (goes (I.OpenEach again out) e refl) (raises (I.OpenEach again out) e refl) s _ (λ v rest.
      Does.open_each_falls image checked body pc hs ws w0 a o paid again out e (items_of v w0.heap) here s rest)
  act_falls (I.Each slot how out) e here s = Does.each_falls image checked body pc hs ws w0 a o paid slot how out here s
  act_falls I.Close e here s = Does.close_falls image checked body pc hs ws w0 a o paid e hs refl here s
  act_falls I.Hold e here s = Does.hold_falls image checked body pc hs ws w0 a o paid e hs refl here s
  act_falls I.Resume e here s = Does.resume_falls image checked body pc hs ws w0 a o paid e hs refl here s
  act_falls (I.Parent field goes_on) e here s =
      V.top_falls image body pc hs ws L N (goes (I.Parent field goes_on) e refl) (raises (I.Parent field goes_on) e refl) s _ (λ v rest.
      V.converted_falls image body pc hs ws L N (goes (I.Parent field goes_on) e refl) (raises (I.Parent field goes_on) e refl) (parent_in site.schema field goes_on v w0.heap) rest here s w0 kept)
  act_falls (I.Children object field goes_on) e here s =
      V.top_falls image body pc hs ws L N (goes (I.Children object field goes_on) e refl) (raises (I.Children object field goes_on) e refl) s _ (λ v rest.
      V.converted_falls image body pc hs ws L N (goes (I.Children object field goes_on) e refl) (raises (I.Children object field goes_on) e refl) (children_in site.schema object field goes_on v w0.heap) rest here s w0 kept)
  act_falls I.Only e here s =
      V.top_falls image body pc hs ws L N (goes I.Only e refl) (raises I.Only e refl) s _ (λ v rest. V.converted_falls image body pc hs ws L N (goes I.Only e refl) (raises I.Only e refl) (only v w0.heap) rest here s w0 kept)
  act_falls I.Seen e here s =
      V.top_falls image body pc hs ws L N (goes I.Seen e refl) (raises I.Seen e refl) s _ (λ v rest. V.seen_falls image body pc hs ws L N (goes I.Seen e refl) (raises I.Seen e refl) (items_of v w0.heap) v rest here s w0 kept)
  act_falls (I.Query q kinds) e here s = query_falls q kinds e (all_bound kinds (taken (length kinds) s []).0 w0.heap) here s (taken (length kinds) s []).1
  act_falls (I.Save op what) e here s =
      V.top_falls image body pc hs ws L N (goes (I.Save op what) e refl) (raises (I.Save op what) e refl) s _ (λ v rest. save_falls op what e (records_of what v w0.heap) here s rest)
  act_falls I.Unbuilt e here s = tt

  pub running_falls : (i : Option Instr) → slice_get instrs pc ≡ i → (here : Here) (s : List Value) → Falls image N (act site image i (running body pc hs ws here s w0))
  running_falls None e here s = leaves_end image checked body pc hs ws w0 a e (Returns null) here [] paid
  running_falls (Some i) e here s = act_falls i e here s

-- a state that neither queries nor saves
abbrev pub IsCalm : Mode → Type 0
IsCalm (M.Querying shape run) = ⊥
IsCalm (M.Saving places run) = ⊥
IsCalm _ = Unit {0}

calm_falls : (site : Site) (image : Image) (mode : Mode) (body : BodyAt) (pc : ℕ) (hs : List Handler) (ws : List Waiting) (here : Here) (s : List Value) (w : World) → IsCalm mode →
    Stands image (record { top = record { body = body; pc = pc; here = here; stack = s; handlers = hs }; mode = mode; below = ws; world = w }) →
    Falls image (weight image (record { top = record { body = body; pc = pc; here = here; stack = s; handlers = hs }; mode = mode; below = ws; world = w }))
    (step site image (record { top = record { body = body; pc = pc; here = here; stack = s; handlers = hs }; mode = mode; below = ws; world = w }))
calm_falls site image M.Running body pc hs ws here s w calm st = running_falls site image st.checked body pc hs ws w st.below st.top st.paid (slice_get (instrs_at image body) pc) refl here s
calm_falls site image (M.Leaving why) body pc hs ws here s w calm st = leaving_falls site image st.checked why hs body pc ws here s w st.top st.below st.paid
calm_falls site image (M.Querying shape run) body pc hs ws here s w calm st = absurd calm
calm_falls site image (M.Saving places run) body pc hs ws here s w calm st = absurd calm

-- a step of a state that stands, and neither queries nor saves, takes the weight down, and a state behind it stands
pub falls : (site : Site) (image : Image) (c : Config) → IsCalm c.mode → Stands image c → Falls image (weight image c) (step site image c)
falls site image c calm st = calm_falls site image c.mode c.top.body c.top.pc c.top.handlers c.below c.top.here c.top.stack c.world calm st

-- ---- queries

-- whether a query is over
abbrev pub ended : Mode → ℕ
ended (M.Querying shape run) = 0
ended _ = 1

-- behind a move of a query the machine stands with no more weight than before, and with less where the query is over
abbrev pub Queried : Image → ℕ → Next → Type 0
Queried image n (Goes d) = Stands image d × (weight image d + ended d.mode ≤ n)
Queried image n (Asks q) = Unit {0}
Queried image n (Over r) = Unit {0}

module _ (image : Image) (shape : FoundShape) (c : Config) (stands : Stands image c) where
  abbrev before : ℕ
  before = left image c.world * round image + ((frame_load image c.top + 2) + waiting_load image c.below)

  left_less : (v : TxnState) → Only c.world.txn v → left image (record (c.world) { txn = v }) ≤ left image c.world
  left_less v h =
      let x = h.more.steps in
      let y = h.more.alloc in omega arith

  -- with another stack and other things, at the same place
  behind : (s : List Value) (heap : List Thing) (v : TxnState) → Only c.world.txn v →
      Queried image before (Goes (in_mode (with_heap (move (with_txn c v) c.top.pc s) heap) M.Running))
  behind s heap v h =
      let l = left_less v h in
      let p = pays 0 (left image (record (c.world) { txn = v })) (left image c.world) (round image) (frame_load image c.top + waiting_load image c.below) ((frame_load image c.top + 2) + waiting_load image c.below) (omega arith) (omega arith) in
      (record { checked = stands.checked; top = stands.top; below = stands.below; paid = only_paid c.world.txn v stands.paid h }, omega arith)

  answered_falls : (schema : Schema) (a : Answered) (v : TxnState) → Only c.world.txn v → Queried image before (Goes (in_mode (answered_by schema shape a (with_txn c v)) M.Running))
  answered_falls schema (Counted n) v h = behind (Plain (C.Whole (pos n)) ∷ c.top.stack) c.world.heap v h
  answered_falls schema (Listed found) v h =
      let made = records_made schema shape found c.world.heap in behind (made.0 ∷ c.top.stack) made.1 v h

  moved_falls : (schema : Schema) (m : Query.Move) → Charged c.world.txn m → Queried image before (querying schema shape m c)
  moved_falls schema (Query.Goes run v) h =
      let l = left_less v h in
      let p = pays 0 (left image (record (c.world) { txn = v })) (left image c.world) (round image) ((frame_load image c.top + 2) + waiting_load image c.below) (((frame_load image c.top + 2) + waiting_load image c.below) + 1) (omega arith) (omega arith) in
      (record { checked = stands.checked; top = stands.top; below = stands.below; paid = only_paid c.world.txn v stands.paid h }, omega arith)
  moved_falls schema (Query.Asks q) h = tt
  moved_falls schema (Query.Ends answer v) h = answered_falls schema answer v h
  moved_falls schema (Query.Throws why v) h =
      let l = left_less v h in
      let p = pays 0 (left image (record (c.world) { txn = v })) (left image c.world) (round image) ((handlers_load image (instrs_at image c.top.body) c.top.handlers + 1) + waiting_load image c.below) ((frame_load image c.top + 2) + waiting_load image c.below) (omega arith) (omega arith) in
      (record { checked = stands.checked; top = stands.top; below = stands.below; paid = only_paid c.world.txn v stands.paid h }, omega arith)
  moved_falls schema (Query.Halts k n v) h = tt

-- a step of a state that stands and queries
pub querying_falls : (site : Site) (image : Image) (shape : FoundShape) (run : QueryRun) (c : Config) → c.mode ≡ M.Querying shape run → Stands image c → Queried image (weight image c) (step site image c)
querying_falls site image shape run c e st =
    subst (λ (m : Mode). Queried image (left image c.world * round image + (top_load image m c.top + waiting_load image c.below)) (step_in site image m c)) (sym e)
    (moved_falls image shape c st site.schema (Query.move site run c.world.txn) (move_more site run.stage run c.world.txn st.paid.eight))
