-- What goes round keeps to the machine.
use Rattle.std.proofs.Common.{◌≡◌, ℕ, zero, suc, List, [], ◌∷◌, refl, sym, ap, ◌∙◌, subst, append-nil}
use Rattle.activations.specs.declared.abrupt.Abrupt.TheVariants.{Throws, Returns, Breaks, Continues}
use Rattle.activations.specs.declared.abrupt.Raised.{Raised}
use Rattle.activations.specs.declared.here.Here.{Here}
use Rattle.request_states.specs.Runs.{Setting, site_of}
use Rattle.request_states.specs.States.{State, Res}
use Rattle.request_states.specs.Values.{null}
use Rattle.apex_meaning.specs.Bodies as D
use Rattle.apex_meaning.specs.Classes.{mode_or}
use Rattle.apex_meaning.specs.Expressions.{value_of}
use Rattle.apex_meaning.specs.Meanings.{Again, Body, Method, Constructor, Fields, Statics, Trigger, back, returned}
use Rattle.save_meaning.specs.Results.{Halts, Needs, Unfinished, Unbuilt, Gives, Stops, Leaves, Closes, Holds}
use Rattle.save_meaning.specs.Sites.{Site}
use Rattle.save_meaning.specs.declared.run.TxnState.{TxnState}
use Rattle.tenant_trails.specs.Runs as Trail
use Rattle.txn_heap.specs.declared.thing.Value.{Value}
use Rattle.txn_heap.specs.declared.thing.Value.TheVariants.{Plain, Object}
use Rattle.typed_program.specs.declared.expr.TypedExpr.{TypedExpr}
use Rattle.stack_code.specs.Calls as Calls
use Rattle.stack_code.specs.Code as Code
use Rattle.stack_code.specs.Code.{Instrs}
use Rattle.stack_code.specs.Machine.{instrs_at}
use Rattle.stack_code.specs.declared.image.Image.{Image}
use Rattle.stack_code.specs.declared.state.After.{After}
use Rattle.stack_code.specs.declared.state.After.TheVariants as A
use Rattle.stack_code.specs.declared.state.BodyAt.{BodyAt}
use Rattle.stack_code.specs.declared.state.Mode.TheVariants as M
use Rattle.program_means.proofs.Bodies.{body_does, code_in}
use Rattle.program_means.proofs.Open.{round_at}
use Rattle.program_simulation.proofs.Classes.{IsImage}
use Rattle.program_simulation.proofs.Frames.{Ground, waits, callee, standing, entered, at_body, Given, Gone, Follows, returns_left, throws_left, breaks_left, continues_left, ends_at}
use Rattle.program_simulation.proofs.Simulates as T
use Rattle.program_simulation.proofs.Simulates.{over, world, Stands}

module _ (site : Site) (image : Image) (r : Trail.Run) where
  -- the frame that waits has its own activation
  given_here : (g : Ground) (after : After) (v : Value) (s : State) (h : Here) → Given site image r g after v (record s { here = h }) → Given site image r g after v s
  given_here g A.Answered v s h x = record { by = λ w b. x.by w b }
  given_here g A.Constructed v s h x = record { by = λ w b. x.by w b }
  given_here g A.Begun v s h x = record { by = λ w b. x.by w b }
  given_here g (A.Fired f) v s h x = record { by = λ w b. x.by w b }

  fled_here : (g : Ground) (after : After) (e : Raised) (s : State) (h : Here) → Gone site image r g after (Leaves (Throws e)) (record s { here = h }) → Gone site image r g after (Leaves (Throws e)) s
  fled_here g A.Answered e s h x = record { by = λ w b. x.by w b }
  fled_here g A.Constructed e s h x = record { by = λ w b. x.by w b }
  fled_here g A.Begun e s h x = record { by = λ w b. x.by w b }
  fled_here g (A.Fired f) e s h x = record { by = λ w b. x.by w b }

  -- a body that ends comes back to the frame that waits
  comes_back : (g : Ground) (body : BodyAt) (after : After) (here : Here) (res : Res (Unit {0})) →
      Holds (λ v s. s.here ≡ here → Given site image r g after v s) (λ why s. s.here ≡ here → Gone site image r g after why s) (back here (returned res)) →
      Holds (λ u s. T.At site image r (callee g body after) [] [] s) (T.Stopped site image r (callee g body after)) res
  comes_back g body after here (Gives u s) post = ends_at site image r g body after [] s (given_here g after null s here (post refl))
  comes_back g body after here (Stops (Leaves (Returns v)) s) post = returns_left site image r g body after v s (given_here g after v s here (post refl))
  comes_back g body after here (Stops (Leaves (Throws e)) s) post = throws_left site image r g body after e s (fled_here g after e s here (post refl))
  comes_back g body after here (Stops (Leaves Breaks) s) post = breaks_left site image r g body after s (given_here g after null s here (post refl))
  comes_back g body after here (Stops (Leaves Continues) s) post = continues_left site image r g body after s (given_here g after null s here (post refl))
  comes_back g body after here (Stops (Closes (Halts k n)) s) post = post refl
  comes_back g body after here (Stops (Closes (Needs q)) s) post = post refl
  comes_back g body after here (Stops (Closes Unfinished) s) post = post refl
  comes_back g body after here (Stops (Closes Unbuilt) s) post = post refl

module _ (setting : Setting) (image : Image) (r : Trail.Run) (is : IsImage setting.program image) (names : List (List ℕ))
    (values : (again : Again) → Follows (site_of setting) image r again → (e : TypedExpr) → T.Puts (site_of setting) image r (value_of setting again names e) (Code.expr_code setting.program e)) where
  abbrev site : Site
  site = site_of setting

  module _ (again : Again) (follows : Follows site image r again) where
    abbrev code_of_body : Body → Instrs
    code_of_body b = code_in setting image r is again names follows (values again follows) b

    code_is : (b : Body) → instrs_at image (at_body b) ≡ code_of_body b
    code_is (Method c m) = is.methods c m
    code_is (Constructor c m) = is.constructors c m
    code_is (Fields c) = is.fields c
    code_is (Statics c) = is.static_values c
    code_is (Trigger n) = is.triggers n

    abbrev acts : Body → List Value → Value → Here → Here
    acts b args this here = D.activation setting again names b args this here

    same_activation : (b : Body) (args : List Value) (this : Value) (here : Here) → Calls.activation image (at_body b) args this here ≡ acts b args this here
    same_activation (Method c m) args this here = ap (λ o. record { locals = args; this = this; mode = mode_or o here.mode; firing = here.firing }) (is.sharing c)
    same_activation (Constructor c m) args this here = ap (λ o. record { locals = args; this = this; mode = mode_or o here.mode; firing = here.firing }) (is.sharing c)
    same_activation (Fields c) args this here = ap (λ o. record { locals = args; this = this; mode = mode_or o here.mode; firing = here.firing }) (is.sharing c)
    same_activation (Statics c) args this here = ap (λ o. record { locals = args; this = this; mode = mode_or o here.mode; firing = here.firing }) (is.sharing c)
    same_activation (Trigger n) args (Plain cell) here = refl
    same_activation (Trigger n) args (Object x) here = refl

    body_at : (b : Body) (args : List Value) (this : Value) (after : After) (g : Ground) (st : State) (w : TxnState) → Stands (over (waits g after) g.below) st w →
        Holds (λ v s. s.here ≡ st.here → Given site image r g after v s) (λ why s. s.here ≡ st.here → Gone site image r g after why s) (D.body_runs setting again names b args this st) →
        T.Runs site image r (standing (entered site image r g (at_body b) args this after st.here) st w) st.world.txn.tape
    body_at b args this after g st w stands post =
        subst (λ (h : Here). T.Runs site image r (record { top = record { body = at_body b; pc = 0; here = h; stack = []; handlers = [] }; mode = M.Running; below = waits g after ∷ g.below.frames; world = world st w }) st.world.txn.tape)
        (sym (same_activation b args this st.here))
        ((body_does setting image r is again names follows (values again follows) b (callee g (at_body b) after) [] st1
        (comes_back site image r g (at_body b) after st.here (D.body_does setting again names b st1) post)).by 0 w stands (code_is b ∙ sym (append-nil (code_of_body b)))) where
          st1 : State
          st1 = record st { here = acts b args this st.here }

  pub follows_rounds : (n : ℕ) → Follows site image r (D.rounds setting names n)
  follows_rounds zero = record {
    body = λ b args this after g st w stands post. absurd (post refl g.below.saved w stands.alike);
    loop = λ condition body behind cc bc nc t p q a k st post. record { by = λ pc w b d. absurd (post a.below.saved w b.alike) };
  }
  follows_rounds (suc n) = record {
    body = λ b args this after g st w stands post. body_at (D.rounds setting names n) (follows_rounds n) b args this after g st w stands post;
    loop = λ condition body behind cc bc nc t p q.
        round_at site image r cc bc nc condition body behind ((D.rounds setting names n).loop condition body behind) t p q ((follows_rounds n).loop condition body behind cc bc nc t p q);
  }
