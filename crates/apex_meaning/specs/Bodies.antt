-- What bodies of classes do, and how code goes round (docs/language.md, "Classes as they run").
use Rattle.std.specs.Prelude.{ℕ, zero, suc, ◌+◌, ◌*◌, Bool, true, false, cond, List, [], ◌∷◌, length, map, slice_get, Option, None, Some}
use Rattle.activations.specs.declared.here.Here.{Here}
use Rattle.apex_num.specs.declared.kind.LimitKind.TheVariants.{Steps, Alloc}
use Rattle.apex_schema.specs.declared.schema.Mode.{Mode}
use Rattle.apex_schema.specs.declared.schema.Mode.TheVariants.{Without}
use Rattle.limit_meter.specs.Charges.{limit_of}
use Rattle.save_meaning.specs.Results.{Gives, Stops, Closes, Unfinished, bind}
use Rattle.request_states.specs.Runs.{Setting}
use Rattle.request_states.specs.States.{State, Res, charge}
use Rattle.request_states.specs.Values.{null}
use Rattle.txn_heap.specs.Statics.{with_static}
use Rattle.txn_heap.specs.declared.thing.Value.{Value}
use Rattle.txn_heap.specs.declared.thing.Value.TheVariants.{Object}
use Rattle.typed_program.specs.declared.expr.TypedExpr.{TypedExpr}
use Rattle.typed_program.specs.declared.program.Program.{Program}
use Rattle.typed_program.specs.declared.stmt.TypedStmt.{TypedStmt}
use Rattle.typed_program.specs.declared.unit.ImpliedCall.{ImpliedCall}
use Rattle.typed_program.specs.declared.unit.ParentCall.{ParentCall}
use Rattle.typed_program.specs.declared.unit.ParentCall.TheVariants as P
use Rattle.typed_program.specs.declared.unit.TypedConstructor.{TypedConstructor}
use Rattle.typed_program.specs.declared.unit.TypedField.{TypedField}
use Rattle.apex_meaning.specs.Classes.{and_fields, code_of, constructor_at, field_place, fields_at, mode_of, no_starts, Starts, starts, trigger_at}
use Rattle.apex_meaning.specs.Expressions.{value_of}
use Rattle.apex_meaning.specs.Meanings.{Again, Body, Method, Constructor, Fields, Statics, Trigger, Do, Run, all_do, all_of, dropped, in_here, returned, turn}
use Rattle.apex_meaning.specs.Places.{set_field}
use Rattle.apex_meaning.specs.Preparing.{constructed, set_message, started, with_statics}
use Rattle.apex_meaning.specs.Statements.{does_all}

module _ (setting : Setting) (again : Again) (names : List (List ℕ)) where
  abbrev pub values : List TypedExpr → State → Res (List Value)
  values es st = all_of (map (value_of setting again names) es) st

  -- ---- initial values; a field without one stays null

  abbrev pub initial_field : ℕ → ℕ → Bool → Option TypedExpr → Do
  initial_field c n false (Some e) st =
      bind (value_of setting again names e st) (λ v s. set_field (field_place setting.program c n) s.here.this v s)
  initial_field c n _ _ st = Gives tt st

  -- those of an instance, in the order of the text
  abbrev pub initial_fields : ℕ → ℕ → List TypedField → Do
  initial_fields c n [] st = Gives tt st
  initial_fields c n (f ∷ fs) st = bind (initial_field c n f.is_static f.value st) (λ u s. initial_fields c (suc n) fs s)

  abbrev pub initial_static : ℕ → ℕ → Bool → Option TypedExpr → Do
  initial_static c n true (Some e) st =
      bind (value_of setting again names e st) (λ v s. Gives tt (with_statics (with_static c n v s.world.statics) s))
  initial_static c n _ _ st = Gives tt st

  -- those of a class
  abbrev pub initial_statics : ℕ → ℕ → List TypedField → Do
  initial_statics c n [] st = Gives tt st
  initial_statics c n (f ∷ fs) st = bind (initial_static c n f.is_static f.value st) (λ u s. initial_statics c (suc n) fs s)

  -- ---- constructors

  -- the initial values of its own fields, behind what isn't written
  abbrev pub own_fields : Starts → ℕ → Do
  own_fields ss c st = started setting.program again st.here.this (and_fields ss c) st

  -- what comes before the statements of a constructor: its parent's, and then the initial values of the fields; `this(..)` has
  -- given them theirs; `super(..)` and `this(..)` are statements
  abbrev pub begins : ℕ → ParentCall → Do
  begins c P.Nothing st = own_fields no_starts c st
  begins c (P.Implied i) st = own_fields (starts setting.program (Some i)) c st
  begins c (P.Super p k es) st =
      bind (charge Steps 1 st) (λ u s.
      bind (values es s) (λ args s1.
      bind (constructed setting.program again p k args s1.here.this s1) (λ u1 s2. own_fields no_starts c s2)))
  begins c (P.Exception es) st =
      bind (charge Steps 1 st) (λ u s.
      bind (values es s) (λ args s1.
      own_fields no_starts c (set_message s1.here.this args s1)))
  begins c (P.This k es) st =
      bind (charge Steps 1 st) (λ u s.
      bind (values es s) (λ args s1.
      constructed setting.program again c k args s1.here.this s1))

  abbrev pub constructs : ℕ → Option TypedConstructor → Do
  constructs c None st = Gives tt st
  constructs c (Some k) st = bind (begins c k.parent st) (λ u s. does_all setting again names k.stmts s)

  abbrev pub method_does : Option (List TypedStmt) → Do
  method_does None st = Gives tt st
  method_does (Some stmts) st = does_all setting again names stmts st

  -- ---- bodies

  abbrev pub body_does : Body → Do
  body_does (Method c m) st = method_does (code_of setting.program c m) st
  body_does (Constructor c k) st = constructs c (constructor_at setting.program c k) st
  body_does (Fields c) st = initial_fields c 0 (fields_at setting.program c) st
  body_does (Statics c) st = initial_statics c 0 (fields_at setting.program c) st
  body_does (Trigger n) st = method_does (trigger_at setting.program n) st

  -- the mode of a body is that of its class; a trigger runs without sharing
  abbrev pub mode_in : Body → Mode → Mode
  mode_in (Method c m) caller = mode_of setting.program c caller
  mode_in (Constructor c k) caller = mode_of setting.program c caller
  mode_in (Fields c) caller = mode_of setting.program c caller
  mode_in (Statics c) caller = mode_of setting.program c caller
  mode_in (Trigger n) caller = Without

  -- the firing that a body runs in; that of a trigger has the number of the thing with its variables
  abbrev pub firing_in : Body → Value → ℕ → ℕ
  firing_in (Trigger n) (Object r) caller = r.place
  firing_in b this caller = caller

  -- the activation of a body: its arguments are its first locals
  abbrev pub activation : Body → List Value → Value → Here → Here
  activation b args this caller =
      record { locals = args; this = this; mode = mode_in b caller.mode; firing = firing_in b this caller.firing }

  abbrev pub body_runs : Body → List Value → Value → Run
  body_runs b args this st = in_here (activation b args this st.here) (λ s. returned (body_does b s)) st

-- ---- rounds

abbrev pub no_more : {A : Type 0} → State → Res A
no_more st = Stops (Closes Unfinished) st

-- what goes round at most n times
abbrev pub rounds : Setting → List (List ℕ) → ℕ → Again
rounds setting names zero = record { body = λ b args this st. no_more st; loop = λ condition body next st. no_more st }
rounds setting names (suc n) = record { body = body_runs setting (rounds setting names n) names; loop = turn (rounds setting names n) }

-- a step and an allocation unit pay for two rounds each, and so does the preparation of a class
abbrev pub enough : Program → ℕ
enough program = 2 * (limit_of Steps + limit_of Alloc + length program.classes + 1)
