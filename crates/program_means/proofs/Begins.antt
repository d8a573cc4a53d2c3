-- What stands before a constructor's statements, where it isn't written.
use Rattle.std.proofs.Common.{◌≡◌, ℕ, ◌+◌, List, ◌∷◌, drop, refl}
use Rattle.activations.specs.declared.here.Here.{Here}
use Rattle.request_states.specs.Runs.{Setting, site_of}
use Rattle.request_states.specs.States.{State, Res}
use Rattle.apex_meaning.specs.Classes.{Starts}
use Rattle.apex_meaning.specs.Meanings.{Again}
use Rattle.apex_meaning.specs.Preparing.{started}
use Rattle.save_meaning.specs.Results.{Holds}
use Rattle.save_meaning.proofs.Holding.{weaken, weaken_end}
use Rattle.tenant_trails.specs.Runs as Trail
use Rattle.txn_heap.specs.declared.thing.Value.{Value}
use Rattle.stack_code.specs.Code.{Instrs, starts_code}
use Rattle.stack_code.specs.Machine.{instrs_at}
use Rattle.stack_code.specs.declared.code.Instr.TheVariants as I
use Rattle.stack_code.specs.declared.image.Image.{Image}
use Rattle.program_simulation.proofs.Classes.{IsImage}
use Rattle.program_simulation.proofs.Frames.{Ground, ground, Follows, stopped_gone, at_ready}
use Rattle.program_simulation.proofs.Preparing as Preparing
use Rattle.program_simulation.proofs.Simulates as T
use Rattle.program_simulation.proofs.Simulates.{Around, config}

module _ (setting : Setting) (image : Image) (r : Trail.Run) (is : IsImage setting.program image) (again : Again) (follows : Follows (site_of setting) image r again) where
  -- what holds behind code that keeps the activation
  abbrev pub Then : Ground → Here → Res (Unit {0}) → Type 0
  Then g here res = Preparing.FollowsIn setting image r is again follows g here res

  -- so it does behind code at a place of a body
  pub then_at : (a : Around) (pc : ℕ) (k : Instrs) (temps : List Value) (here : Here) (res : Res (Unit {0})) → drop pc (instrs_at image a.body) ≡ k →
      Holds (λ u s. s.here ≡ here → T.At (site_of setting) image r a k temps s) (λ why s. s.here ≡ here → T.Stopped (site_of setting) image r a why s) res → Then (ground a pc temps here) here res
  then_at a pc k temps here res d post =
      weaken_end _ _ _ res (λ why s h q. stopped_gone (site_of setting) image r a pc temps here why s (h q) q)
      (weaken _ _ _ res (λ u s h q. at_ready (site_of setting) image r a pc k temps here s d (h q) q) post)

  pub begin_at : (ss : Starts) (a : Around) (k : Instrs) (temps : List Value) (st : State) →
      Holds (λ u s. s.here ≡ st.here → T.At (site_of setting) image r a k temps s) (λ why s. s.here ≡ st.here → T.Stopped (site_of setting) image r a why s) (started setting.program again st.here.this ss st) →
      T.At (site_of setting) image r a (I.Begin (starts_code setting.program ss) ∷ k) temps st
  begin_at ss a k temps st post =
      T.first (site_of setting) image r a (I.Begin (starts_code setting.program ss)) k temps st
      (λ pc w b d. Preparing.begin_at setting image r is again follows ss st.here.this (ground a (pc + 1) temps st.here) st w (config a pc temps st w) refl b
      (then_at a (pc + 1) k temps st.here (started setting.program again st.here.this ss st) d post))
