-- Instructions of values, variables and things: where a state may go on and may throw, they do no more.
use Rattle.std.proofs.Common.{ℕ, ◌+◌, ◌*◌, ◌≤◌, Bool, true, false, cond, List, [], ◌∷◌, ◌++◌, length, map, Option, Some, None, arith}
use Rattle.std.specs.Prelude.{leb, slice_get, slice_index_or}
use Rattle.activations.specs.declared.here.Here.{Here}
use Rattle.request_states.specs.States.{put_at}
use Rattle.request_states.specs.Values.{null}
use Rattle.apex_num.specs.declared.cell.Cell.{Cell}
use Rattle.apex_num.specs.declared.cell.Cell.TheVariants as C
use Rattle.apex_num.specs.declared.kind.LimitKind.{LimitKind}
use Rattle.apex_num.specs.declared.kind.LimitKind.TheVariants as K
use Rattle.apex_requests.specs.declared.request.Ticket.{Ticket}
use Rattle.apex_schema.specs.declared.schema.Schema.{Schema}
use Rattle.builtin_sizes.specs.Sizes.{sized}
use Rattle.builtin_table.specs.Answers as Answer
use Rattle.builtin_table.specs.Meanings.{meaning}
use Rattle.builtin_table.specs.declared.method.Builtin.{Builtin as Which}
use Rattle.builtin_table.specs.declared.method.Builtin.TheVariants as B
use Rattle.builtin_table.specs.declared.method.ListMethod.TheVariants as L
use Rattle.builtin_table.specs.declared.method.MomentMethod.TheVariants.{Date}
use Rattle.builtin_table.specs.declared.method.PlatformMethod.{PlatformMethod}
use Rattle.builtin_table.specs.declared.method.PlatformMethod.TheVariants as P
use Rattle.heap_methods.specs.Making.{set_of}
use Rattle.heap_methods.specs.Methods.{method, units}
use Rattle.heap_methods.specs.Outcomes.{Outcome, Done, Answers, Throws as Thrown', done as things_done, units_of}
use Rattle.apex_meaning.specs.Builtins.{cell_in, first_of, rest_of}
use Rattle.apex_meaning.specs.Exceptions.{Kind, Nothing, BuiltIn, Declared, kind_of_thing, message_of_thing}
use Rattle.apex_meaning.specs.Places.{setting_units, with_cell}
use Rattle.apex_meaning.specs.Records.{cell_in as record_cell}
use Rattle.limit_meter.specs.Charges.{count_of, limit_of}
use Rattle.platform_errors.specs.declared.thrown.Thrown.{Thrown}
use Rattle.platform_errors.specs.declared.thrown.Thrown.TheVariants.{NullObject, NoErrors, ReadOnly, Builtin, InvalidConversion}
use Rattle.save_meaning.specs.Sites.{Site}
use Rattle.save_measures.specs.Paid.{IsPaid}
use Rattle.txn_heap.specs.Changes.{changed as things_changed, thing_after}
use Rattle.txn_heap.specs.Guards.{guard_of, takes_cell, takes_error, with_error}
use Rattle.txn_heap.specs.Statics.{with_static}
use Rattle.txn_heap.specs.declared.change.Change.TheVariants as Now
use Rattle.txn_heap.specs.declared.thing.Thing.{Thing}
use Rattle.txn_heap.specs.declared.thing.Thing.TheVariants as T
use Rattle.txn_heap.specs.declared.thing.Value.{Value}
use Rattle.txn_heap.specs.declared.thing.Value.TheVariants.{Plain, Object}
use Rattle.typed_program.specs.declared.expr.CollectionKind.{CollectionKind}
use Rattle.typed_program.specs.declared.expr.CollectionKind.TheVariants as Kinds
use Rattle.typed_program.specs.declared.expr.Conversion.{Conversion}
use Rattle.typed_program.specs.declared.expr.Number.{Number}
use Rattle.typed_program.specs.declared.expr.StepKind.{StepKind}
use Rattle.typed_program.specs.declared.expr.TypedOp.{TypedOp}
use Rattle.typed_program.specs.declared.expr.TypedOp.TheVariants as Op
use Rattle.value_operators.specs.Operators.{Calc, applied, joined, stepped}
use Rattle.value_operators.specs.declared.calculated.Calculated.TheVariants.{Val, Fails}
use Rattle.value_texts.specs.Texts.{text_of}
use Rattle.stack_code.specs.Machine.{Next, charged, charged_if, next, on_calc, on_top, on_truth, raise, taken, with_heap, with_line, with_statics}
use Rattle.stack_code.specs.Steps.{operator_next, seen_next}
use Rattle.stack_code.specs.Things.{answered_next, builtin_next, cast_if, cast_next, change_next, cell_loaded, cell_stored, collection, copied_next, done_next, error_next, fetch_next, field_loaded, field_of_thing, field_stored, filled_next, get_next, if_exception, if_takes_cell, if_takes_error, know_cell, loaded, make_for, message_added, message_next, on_exception, parts_of, platform_next, print_next, set_cell_in_thing, set_in_thing, set_message, set_next, sized_next, stored, text_next}
use Rattle.stack_code.specs.declared.code.Slot.{Slot}
use Rattle.stack_code.specs.declared.code.Slot.TheVariants as S
use Rattle.stack_code.specs.declared.image.Image.{Image}
use Rattle.stack_code.specs.declared.state.BodyAt.{BodyAt}
use Rattle.stack_code.specs.declared.state.Config.{Config}
use Rattle.stack_code.specs.declared.state.Handler.{Handler}
use Rattle.stack_code.specs.declared.state.Mode.TheVariants as M
use Rattle.stack_code.specs.declared.state.Waiting.{Waiting}
use Rattle.stack_code.specs.declared.state.World.{World}
use Rattle.program_weights.specs.Keeps.{Falls}
use Rattle.program_weights.specs.Weights.{left}
use Rattle.program_weights.proofs.Lefts.{charging, charged_paid, charged_left, with_static_unready}

-- a state that runs the instruction at a place
abbrev pub running : BodyAt → ℕ → List Handler → List Waiting → Here → List Value → World → Config
running body pc hs ws here s w = record { top = record { body = body; pc = pc; here = here; stack = s; handlers = hs }; mode = M.Running; below = ws; world = w }

-- what was written was paid for, and no more is left to charge
abbrev pub Kept : Image → ℕ → World → Type 0
Kept image m w = IsPaid w.txn × (left image w ≤ m)

module _ (image : Image) (body : BodyAt) (pc : ℕ) (hs : List Handler) (ws : List Waiting) (m N : ℕ)
    (go_on : (here : Here) (s stack : List Value) (w : World) → Kept image m w → Falls image N (next (running body pc hs ws here s w) stack))
    (raises : (t : Thrown) (here : Here) (s : List Value) (w : World) → Kept image m w → Falls image N (raise t (running body pc hs ws here s w))) where
  abbrev cfg : Here → List Value → World → Config
  cfg here s w = running body pc hs ws here s w

  -- ---- what steps are made of

  pub charged_falls : (k : LimitKind) (n : ℕ) (here : Here) (s : List Value) (w : World) (go : Config → Next) → Kept image m w → ((v : World) → Kept image m v → Falls image N (go (cfg here s v))) → Falls image N (charged k n (cfg here s w) go)
  charged_falls k n here s w go p h = by_room (leb (count_of w.txn.meter k + n) (limit_of k))
    where
      by_room : (b : Bool) → Falls image N (charged_if b k n (cfg here s w) go)
      by_room true =
          let a = charged_left image k n w p.0 in
          let b = p.1 in h (charging k n w) (charged_paid k n w p.0, omega arith)
      by_room false = tt

  pub top_falls : (s : List Value) (go : Value → List Value → Next) → ((v : Value) (rest : List Value) → Falls image N (go v rest)) → Falls image N (on_top s go)
  top_falls [] go h = h null []
  top_falls (v ∷ rest) go h = h v rest

  pub calc_falls : (r : Calc) (here : Here) (s : List Value) (w : World) (go : Value → Next) → Kept image m w → ((v : Value) → Falls image N (go v)) → Falls image N (on_calc r (cfg here s w) go)
  calc_falls (Val v) here s w go p h = h v
  calc_falls (Fails t) here s w go p h = raises t here s w p

  pub truth_falls : (o : Option Bool) (here : Here) (s : List Value) (w : World) (go : Bool → Next) → Kept image m w → ((b : Bool) → Falls image N (go b)) → Falls image N (on_truth o (cfg here s w) go)
  truth_falls None here s w go p h = raises NullObject here s w p
  truth_falls (Some b) here s w go p h = h b

  done_falls : (o : Done) (here : Here) (s : List Value) (w : World) (go : Value → Config → Next) → Kept image m w → ((v : Value) (x : World) → Kept image m x → Falls image N (go v (cfg here s x))) → Falls image N (done_next o (cfg here s w) go)
  done_falls (Answers v heap) here s w go p h = h v (record w { heap = heap }) p
  done_falls (Thrown' k text) here s w go p h = raises (Builtin k text) here s w p

  collection_falls : (which : Which) (on : Value) (args : List Value) (here : Here) (s : List Value) (w : World) (go : Value → Config → Next) → Kept image m w → ((v : Value) (x : World) → Kept image m x → Falls image N (go v (cfg here s x))) →
      Falls image N (collection which on args (cfg here s w) go)
  collection_falls which (Plain k) args here s w go p h = raises NullObject here s w p
  collection_falls which (Object r) args here s w go p h =
      charged_falls K.Alloc (units which r.place args w.heap) here s w (λ d. done_next (method which r.place args d.world.heap) d go) p (λ x q. done_falls (method which r.place args x.heap) here s x go q h)

  text_falls : (text : List ℕ) (stack : List Value) (here : Here) (s : List Value) (w : World) → Kept image m w → Falls image N (text_next text (cfg here s w) stack)
  text_falls text stack here s w p =
      charged_falls K.Alloc (16 + length text) here s w (λ d. next d (Plain (C.Text text) ∷ stack)) p (λ x q. go_on here s (Plain (C.Text text) ∷ stack) x q)

  pub make_falls : (n : ℕ) (thing : Thing) (stack : List Value) (here : Here) (s : List Value) (w : World) → Kept image m w → Falls image N (make_for n thing (cfg here s w) stack)
  make_falls n thing stack here s w p =
      charged_falls K.Alloc n here s w (λ d. next (with_heap d (d.world.heap ++ thing ∷ [])) (Object (record { place = length d.world.heap }) ∷ stack)) p
      (λ x q. go_on here s (Object (record { place = length x.heap }) ∷ stack) (record x { heap = x.heap ++ thing ∷ [] }) q)

  -- ---- operators

  pub operator_falls : (left' : Conversion) (op : TypedOp) (right : Conversion) (v u : Value) (stack : List Value) (here : Here) (s : List Value) (w : World) → Kept image m w → Falls image N (operator_next left' op right v u (cfg here s w) stack)
  operator_falls left' Op.Join right v u stack here s w p = text_falls (joined v u) stack here s w p
  operator_falls left' (Op.Arithmetic a n) right v u stack here s w p = calc_falls (applied left' (Op.Arithmetic a n) right v u) here s w (λ x. next (cfg here s w) (x ∷ stack)) p (λ x. go_on here s (x ∷ stack) w p)
  operator_falls left' Op.Equal right v u stack here s w p = calc_falls (applied left' Op.Equal right v u) here s w (λ x. next (cfg here s w) (x ∷ stack)) p (λ x. go_on here s (x ∷ stack) w p)
  operator_falls left' Op.Differs right v u stack here s w p = calc_falls (applied left' Op.Differs right v u) here s w (λ x. next (cfg here s w) (x ∷ stack)) p (λ x. go_on here s (x ∷ stack) w p)
  operator_falls left' (Op.Order o) right v u stack here s w p = calc_falls (applied left' (Op.Order o) right v u) here s w (λ x. next (cfg here s w) (x ∷ stack)) p (λ x. go_on here s (x ∷ stack) w p)
  operator_falls left' Op.And right v u stack here s w p = calc_falls (applied left' Op.And right v u) here s w (λ x. next (cfg here s w) (x ∷ stack)) p (λ x. go_on here s (x ∷ stack) w p)
  operator_falls left' Op.Or right v u stack here s w p = calc_falls (applied left' Op.Or right v u) here s w (λ x. next (cfg here s w) (x ∷ stack)) p (λ x. go_on here s (x ∷ stack) w p)

  pub converted_falls : (r : Calc) (stack : List Value) (here : Here) (s : List Value) (w : World) → Kept image m w → Falls image N (on_calc r (cfg here s w) (λ x. next (cfg here s w) (x ∷ stack)))
  converted_falls r stack here s w p = calc_falls r here s w (λ x. next (cfg here s w) (x ∷ stack)) p (λ x. go_on here s (x ∷ stack) w p)

  pub tested_falls : (o : Option Bool) (told : Bool → Value) (stack : List Value) (here : Here) (s : List Value) (w : World) → Kept image m w → Falls image N (on_truth o (cfg here s w) (λ b. next (cfg here s w) (told b ∷ stack)))
  tested_falls o told stack here s w p = truth_falls o here s w (λ b. next (cfg here s w) (told b ∷ stack)) p (λ b. go_on here s (told b ∷ stack) w p)

  -- ---- methods

  answered_falls : (a : Answer.Answer) (stack : List Value) (here : Here) (s : List Value) (w : World) → Kept image m w → Falls image N (answered_next a (cfg here s w) stack)
  answered_falls (Answer.Gives cell) stack here s w p = go_on here s (Plain cell ∷ stack) w p
  answered_falls (Answer.Throws k text) stack here s w p = raises (Builtin k text) here s w p

  sized_falls : (o : Option ℕ) (here : Here) (s : List Value) (w : World) (go : Config → Next) → Kept image m w → ((v : World) → Kept image m v → Falls image N (go (cfg here s v))) → Falls image N (sized_next o (cfg here s w) go)
  sized_falls None here s w go p h = h w p
  sized_falls (Some n) here s w go p h = charged_falls K.Alloc (16 + n) here s w go p h

  cells_falls : (a : Answer.Answer) (o : Option ℕ) (stack : List Value) (here : Here) (s : List Value) (w : World) → Kept image m w → Falls image N (sized_next o (cfg here s w) (λ d. answered_next a d stack))
  cells_falls a o stack here s w p = sized_falls o here s w (λ d. answered_next a d stack) p (λ x q. answered_falls a stack here s x q)

  exception_falls : (k : Kind) (here : Here) (s : List Value) (w : World) (go : Next) → Kept image m w → Falls image N go → Falls image N (if_exception k (cfg here s w) go)
  exception_falls Nothing here s w go p h = raises NullObject here s w p
  exception_falls (BuiltIn k) here s w go p h = h
  exception_falls (Declared k) here s w go p h = h

  on_exception_falls : (v : Value) (here : Here) (s : List Value) (w : World) (go : Option Thing → Next) → Kept image m w → ((t : Option Thing) → Falls image N (go t)) → Falls image N (on_exception v (cfg here s w) go)
  on_exception_falls (Plain cell) here s w go p h = raises NullObject here s w p
  on_exception_falls (Object r) here s w go p h =
      exception_falls (kind_of_thing (slice_get w.heap r.place)) here s w (go (slice_get w.heap r.place)) p (h (slice_get w.heap r.place))

  message_falls : (cell : Cell) (stack : List Value) (here : Here) (s : List Value) (w : World) → Kept image m w → Falls image N (message_next cell (cfg here s w) stack)
  message_falls (C.Text t) stack here s w p = text_falls t stack here s w p
  message_falls cell stack here s w p = go_on here s (Plain cell ∷ stack) w p

  -- ---- errors of records

  takes_error_falls : (b : Bool) (here : Here) (s : List Value) (w : World) (go : Next) → Kept image m w → Falls image N go → Falls image N (if_takes_error b (cfg here s w) go)
  takes_error_falls true here s w go p h = h
  takes_error_falls false here s w go p h = raises NoErrors here s w p

  message_added_falls : (cell : Cell) (place : ℕ) (stack : List Value) (here : Here) (s : List Value) (w : World) → Kept image m w → Falls image N (message_added cell place (cfg here s w) stack)
  message_added_falls (C.Text message) place stack here s w p =
      takes_error_falls (takes_error (guard_of w.heap place)) here s w (next (with_heap (cfg here s w) (with_error place message w.heap)) (null ∷ stack)) p
      (go_on here s (null ∷ stack) (record w { heap = with_error place message w.heap }) p)
  message_added_falls cell place stack here s w p = raises NullObject here s w p

  error_falls : (v message : Value) (stack : List Value) (here : Here) (s : List Value) (w : World) → Kept image m w → Falls image N (error_next v message (cfg here s w) stack)
  error_falls (Plain cell) message stack here s w p = raises NullObject here s w p
  error_falls (Object r) message stack here s w p = message_added_falls (cell_in message) r.place stack here s w p

  -- what stands behind IN
  pub seen_falls : (o : Option (List Value)) (v : Value) (stack : List Value) (here : Here) (s : List Value) (w : World) → Kept image m w → Falls image N (seen_next o v (cfg here s w) stack)
  seen_falls None v stack here s w p = raises NullObject here s w p
  seen_falls (Some items) v stack here s w p = go_on here s (v ∷ stack) w p

  platform_falls : (ticket : Ticket) (which : PlatformMethod) (vs stack : List Value) (here : Here) (s : List Value) (w : World) → Kept image m w → Falls image N (platform_next ticket image which vs (cfg here s w) stack)
  platform_falls ticket P.Today vs stack here s w p = answered_falls (meaning (B.Moment Date) (C.Moment ticket.now ∷ [])) stack here s w p
  platform_falls ticket P.Now vs stack here s w p = go_on here s _ w p
  platform_falls ticket P.UserId vs stack here s w p = go_on here s _ w p
  platform_falls ticket P.Message vs stack here s w p = on_exception_falls (first_of vs) here s w _ p (λ t. message_falls (message_of_thing t) stack here s w p)
  platform_falls ticket P.TypeName vs stack here s w p = on_exception_falls (first_of vs) here s w _ p (λ t. text_falls _ stack here s w p)
  platform_falls ticket P.AddError vs stack here s w p = error_falls (first_of vs) (first_of (rest_of vs)) stack here s w p
  platform_falls ticket P.Queries vs stack here s w p = go_on here s _ w p
  platform_falls ticket P.QueryRows vs stack here s w p = go_on here s _ w p
  platform_falls ticket P.DmlStatements vs stack here s w p = go_on here s _ w p
  platform_falls ticket P.DmlRows vs stack here s w p = go_on here s _ w p
  platform_falls ticket P.LimitQueries vs stack here s w p = go_on here s _ w p
  platform_falls ticket P.LimitQueryRows vs stack here s w p = go_on here s _ w p
  platform_falls ticket P.LimitDmlStatements vs stack here s w p = go_on here s _ w p
  platform_falls ticket P.LimitDmlRows vs stack here s w p = go_on here s _ w p
  platform_falls ticket _ vs stack here s w p = tt

  pub builtin_falls : (ticket : Ticket) (which : Which) (vs stack : List Value) (here : Here) (s : List Value) (w : World) → Kept image m w → Falls image N (builtin_next ticket image which vs (cfg here s w) stack)
  builtin_falls ticket (B.List k) vs stack here s w p = collection_falls (B.List k) (first_of vs) (rest_of vs) here s w (λ v d. next d (v ∷ stack)) p (λ v x q. go_on here s (v ∷ stack) x q)
  builtin_falls ticket (B.Set k) vs stack here s w p = collection_falls (B.Set k) (first_of vs) (rest_of vs) here s w (λ v d. next d (v ∷ stack)) p (λ v x q. go_on here s (v ∷ stack) x q)
  builtin_falls ticket (B.Map k) vs stack here s w p = collection_falls (B.Map k) (first_of vs) (rest_of vs) here s w (λ v d. next d (v ∷ stack)) p (λ v x q. go_on here s (v ∷ stack) x q)
  builtin_falls ticket B.Join vs stack here s w p = collection_falls B.Join (first_of vs) (rest_of vs) here s w (λ v d. next d (v ∷ stack)) p (λ v x q. go_on here s (v ∷ stack) x q)
  builtin_falls ticket (B.Platform k) vs stack here s w p = platform_falls ticket k vs stack here s w p
  builtin_falls ticket which vs stack here s w p = cells_falls (meaning which (map cell_in vs)) (sized (meaning which (map cell_in vs))) stack here s w p

  -- ---- things

  pub filled_falls : (kind : CollectionKind) (vs stack : List Value) (here : Here) (s : List Value) (w : World) → Kept image m w → Falls image N (filled_next kind vs (cfg here s w) stack)
  filled_falls Kinds.List vs stack here s w p = make_falls (32 + 16 * length vs) (T.List vs) stack here s w p
  filled_falls (Kinds.Set k) vs stack here s w p = make_falls (32 + 16 * length (set_of vs)) (T.Set (set_of vs)) stack here s w p
  filled_falls (Kinds.Map k) vs stack here s w p = make_falls 32 (T.Map []) stack here s w p

  pub copied_falls : (o : Outcome) (stack : List Value) (here : Here) (s : List Value) (w : World) → Kept image m w → Falls image N (copied_next o (cfg here s w) stack)
  copied_falls o stack here s w p =
      charged_falls K.Alloc (units_of None o) here s w (λ d. done_next (things_done 0 d.world.heap o) d (λ v e. next e (v ∷ stack))) p
      (λ x q. done_falls (things_done 0 x.heap o) here s x (λ v e. next e (v ∷ stack)) q (λ v y r. go_on here s (v ∷ stack) y r))

  cast_if_falls : (b : Bool) (v : Value) (stack : List Value) (here : Here) (s : List Value) (w : World) → Kept image m w → Falls image N (cast_if b v (cfg here s w) stack)
  cast_if_falls true v stack here s w p = go_on here s (v ∷ stack) w p
  cast_if_falls false v stack here s w p = raises InvalidConversion here s w p

  pub cast_falls : (good : Kind → Bool) (v : Value) (stack : List Value) (here : Here) (s : List Value) (w : World) → Kept image m w → Falls image N (cast_next good v (cfg here s w) stack)
  cast_falls good (Plain cell) stack here s w p = go_on here s (Plain cell ∷ stack) w p
  cast_falls good (Object r) stack here s w p = cast_if_falls (good (kind_of_thing (slice_get w.heap r.place))) (Object r) stack here s w p

  pub print_falls : (site : Site) (v : Value) (stack : List Value) (here : Here) (s : List Value) (w : World) → Kept image m w → Falls image N (print_next site image v (cfg here s w) stack)
  print_falls site v stack here s w p =
      charged_falls K.Alloc (16 + length (text_of site.schema image.names w.heap v)) here s w (λ d. next (with_line d (text_of site.schema image.names d.world.heap v)) (null ∷ stack)) p
      (λ x q. go_on here s (null ∷ stack) (record x { debug = x.debug ++ text_of site.schema image.names x.heap v ∷ [] }) q)

  pub told_falls : (this : Value) (vs stack : List Value) (here : Here) (s : List Value) (w : World) → Kept image m w → Falls image N (next (set_message this vs (cfg here s w)) stack)
  told_falls (Object r) (Plain k ∷ vs) stack here s w p = go_on here s stack (record w { heap = _ }) p
  told_falls (Object r) (Object q ∷ vs) stack here s w p = go_on here s stack w p
  told_falls (Object r) [] stack here s w p = go_on here s stack w p
  told_falls (Plain k) vs stack here s w p = go_on here s stack w p

  -- ---- variables

  static_kept : (k n : ℕ) (v : Value) (w : World) → Kept image m w → Kept image m (record w { statics = with_static k n v w.statics })
  static_kept k n v w p =
      let e = with_static_unready (length image.classes) k n v w.statics in
      let b = p.1 in (p.0, omega arith)

  pub set_static_falls : (k n : ℕ) (v : Value) (stack : List Value) (here : Here) (s : List Value) (w : World) → Kept image m w → Falls image N (next (with_statics (cfg here s w) (with_static k n v w.statics)) stack)
  set_static_falls k n v stack here s w p = go_on here s stack (record w { statics = with_static k n v w.statics }) (static_kept k n v w p)

  field_of_falls : (place : ℕ) (o : Option Thing) (here : Here) (s : List Value) (w : World) (go : Value → Config → Next) → Kept image m w → ((v : Value) (x : World) → Kept image m x → Falls image N (go v (cfg here s x))) → Falls image N (field_of_thing place o (cfg here s w) go)
  field_of_falls place (Some (T.Instance i)) here s w go p h = h (slice_index_or i.fields place null) w p
  field_of_falls place _ here s w go p h = raises NullObject here s w p

  set_in_falls : (place : ℕ) (v : Value) (at : ℕ) (o : Option Thing) (here : Here) (s : List Value) (w : World) (go : Config → Next) → Kept image m w → ((x : World) → Kept image m x → Falls image N (go (cfg here s x))) → Falls image N (set_in_thing place v at o (cfg here s w) go)
  set_in_falls place v at (Some (T.Instance i)) here s w go p h = h (record w { heap = things_changed at (thing_after (Now.Set place v)) w.heap }) p
  set_in_falls place v at _ here s w go p h = raises NullObject here s w p

  field_loaded_falls : (place : ℕ) (on : Value) (here : Here) (s : List Value) (w : World) (go : Value → Config → Next) → Kept image m w → ((v : Value) (x : World) → Kept image m x → Falls image N (go v (cfg here s x))) → Falls image N (field_loaded place on (cfg here s w) go)
  field_loaded_falls place (Plain cell) here s w go p h = raises NullObject here s w p
  field_loaded_falls place (Object r) here s w go p h = field_of_falls place (slice_get w.heap r.place) here s w go p h

  pub field_stored_falls : (place : ℕ) (on v : Value) (here : Here) (s : List Value) (w : World) (go : Config → Next) → Kept image m w → ((x : World) → Kept image m x → Falls image N (go (cfg here s x))) → Falls image N (field_stored place on v (cfg here s w) go)
  field_stored_falls place (Plain cell) v here s w go p h = raises NullObject here s w p
  field_stored_falls place (Object r) v here s w go p h = set_in_falls place v r.place (slice_get w.heap r.place) here s w go p h

  cell_loaded_falls : (schema : Schema) (field : ℕ) (goes_on : Bool) (on : Value) (here : Here) (s : List Value) (w : World) (go : Value → Config → Next) → Kept image m w → ((v : Value) (x : World) → Kept image m x → Falls image N (go v (cfg here s x))) → Falls image N (cell_loaded schema field goes_on on (cfg here s w) go)
  cell_loaded_falls schema field goes_on on here s w go p h = calc_falls (record_cell schema field goes_on on w.heap) here s w (λ v. go v (cfg here s w)) p (λ v. h v w p)

  takes_cell_falls : (b : Bool) (here : Here) (s : List Value) (w : World) (go : Next) → Kept image m w → Falls image N go → Falls image N (if_takes_cell b (cfg here s w) go)
  takes_cell_falls true here s w go p h = h
  takes_cell_falls false here s w go p h = raises ReadOnly here s w p

  set_cell_falls : (field : ℕ) (v : Value) (at : ℕ) (o : Option Thing) (here : Here) (s : List Value) (w : World) (go : Config → Next) → Kept image m w → ((x : World) → Kept image m x → Falls image N (go (cfg here s x))) → Falls image N (set_cell_in_thing field v at o (cfg here s w) go)
  set_cell_falls field v at (Some (T.Record r)) here s w go p h =
      takes_cell_falls (takes_cell (guard_of w.heap at) field) here s w (know_cell field v at r (cfg here s w) go) p
      (charged_falls K.Alloc (setting_units (slice_index_or r.cells field None)) here s w (λ d. go (with_heap d (with_cell field v at d.world.heap))) p (λ x q. h (record x { heap = with_cell field v at x.heap }) q))
  set_cell_falls field v at _ here s w go p h = raises NullObject here s w p

  cell_stored_falls : (field : ℕ) (on v : Value) (here : Here) (s : List Value) (w : World) (go : Config → Next) → Kept image m w → ((x : World) → Kept image m x → Falls image N (go (cfg here s x))) → Falls image N (cell_stored field on v (cfg here s w) go)
  cell_stored_falls field (Plain cell) v here s w go p h = raises NullObject here s w p
  cell_stored_falls field (Object r) v here s w go p h = set_cell_falls field v r.place (slice_get w.heap r.place) here s w go p h

  loaded_falls : (schema : Schema) (slot : Slot) (ps : List Value) (here : Here) (s : List Value) (w : World) (go : Value → Config → Next) → Kept image m w → ((v : Value) (x : World) → Kept image m x → Falls image N (go v (cfg here s x))) → Falls image N (loaded schema slot ps (cfg here s w) go)
  loaded_falls schema (S.Local x) ps here s w go p h = h _ w p
  loaded_falls schema (S.Static k n) ps here s w go p h = h _ w p
  loaded_falls schema (S.Field place) ps here s w go p h = field_loaded_falls place (first_of ps) here s w go p h
  loaded_falls schema S.Item ps here s w go p h = collection_falls (B.List L.Get) (first_of ps) (first_of (rest_of ps) ∷ []) here s w go p h
  loaded_falls schema (S.Cell field goes_on) ps here s w go p h = cell_loaded_falls schema field goes_on (first_of ps) here s w go p h

  stored_falls : (slot : Slot) (ps : List Value) (v : Value) (here : Here) (s : List Value) (w : World) (go : Config → Next) → Kept image m w → ((now : Here) (x : World) → Kept image m x → Falls image N (go (cfg now s x))) → Falls image N (stored slot ps v (cfg here s w) go)
  stored_falls (S.Local x) ps v here s w go p h = h (record here { locals = put_at x v here.locals }) w p
  stored_falls (S.Static k n) ps v here s w go p h = h here (record w { statics = with_static k n v w.statics }) (static_kept k n v w p)
  stored_falls (S.Field place) ps v here s w go p h = field_stored_falls place (first_of ps) v here s w go p (λ x q. h here x q)
  stored_falls S.Item ps v here s w go p h = collection_falls (B.List L.Set) (first_of ps) (first_of (rest_of ps) ∷ v ∷ []) here s w (λ u d. go d) p (λ u x q. h here x q)
  stored_falls (S.Cell field goes_on) ps v here s w go p h = cell_stored_falls field (first_of ps) v here s w go p (λ x q. h here x q)

  pub get_falls : (schema : Schema) (slot : Slot) (here : Here) (s : List Value) (w : World) → Kept image m w → Falls image N (get_next schema slot (cfg here s w))
  get_falls schema slot here s w p =
      loaded_falls schema slot (taken (parts_of slot) s []).0 here s w (λ v d. next d (v ∷ (taken (parts_of slot) s []).1)) p (λ v x q. go_on here s (v ∷ (taken (parts_of slot) s []).1) x q)

  pub fetch_falls : (schema : Schema) (slot : Slot) (here : Here) (s : List Value) (w : World) → Kept image m w → Falls image N (fetch_next schema slot (cfg here s w))
  fetch_falls schema slot here s w p = loaded_falls schema slot (taken (parts_of slot) s []).0 here s w (λ v d. next d (v ∷ d.top.stack)) p (λ v x q. go_on here s (v ∷ s) x q)

  pub set_falls : (slot : Slot) (here : Here) (s : List Value) (w : World) → Kept image m w → Falls image N (set_next slot (cfg here s w))
  set_falls slot here s w p =
      top_falls s _ (λ v under. stored_falls slot (taken (parts_of slot) under []).0 v here s w (λ d. next d (v ∷ (taken (parts_of slot) under []).1)) p (λ now x q. go_on now s (v ∷ (taken (parts_of slot) under []).1) x q))

  pub change_falls : (schema : Schema) (kind : StepKind) (n : Number) (slot : Slot) (here : Here) (s : List Value) (w : World) → Kept image m w → Falls image N (change_next schema kind n slot (cfg here s w))
  change_falls schema kind n slot here s w p =
      let ps = (taken (parts_of slot) s []).0 in
      let stack = (taken (parts_of slot) s []).1 in
      loaded_falls schema slot ps here s w (λ old d. on_calc (stepped kind.up n old) d (λ new. stored slot ps new d (λ e. next e (cond kind.before new old ∷ stack)))) p (λ old x q.
      calc_falls (stepped kind.up n old) here s x (λ new. stored slot ps new (cfg here s x) (λ e. next e (cond kind.before new old ∷ stack))) q (λ new.
      stored_falls slot ps new here s x (λ e. next e (cond kind.before new old ∷ stack)) q (λ now y r. go_on now s (cond kind.before new old ∷ stack) y r)))
