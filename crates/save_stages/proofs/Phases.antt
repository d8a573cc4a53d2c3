-- Records that enter a phase.
use Rattle.std.proofs.Common.{◌≡◌, ℕ, ◌+◌, ◌≤◌, List, [], ◌∷◌, length, refl, sym, ap, ◌∙◌, le-leb, arith}
use Rattle.apex_num.specs.declared.kind.LimitKind.TheVariants.{Steps}
use Rattle.limit_meter.specs.Charges.{limit_of, count_of, with_count}
use Rattle.save_meaning.specs.Sites.{Site}
use Rattle.save_meaning.specs.declared.run.TxnState.{TxnState}
use Rattle.save_statements.specs.declared.pending.Pending.{Pending}
use Rattle.save_statements.specs.declared.pending.Record.{Record}
use Rattle.save_statements.specs.declared.run.Phase.{Phase}
use Rattle.save_statements.specs.declared.run.Phase.TheVariants as P
use Rattle.save_statements.specs.declared.run.Stage.{Stage}
use Rattle.save_statements.specs.declared.run.SaveRun.{SaveRun}
use Rattle.save_statements.specs.Moves.{Goes, at, inside, entered, charged_if}
use Rattle.save_stages.specs.Does.{Triggers}

module _ (site : Site) (triggers : Triggers) (phase : Phase) (rs : List Record) (run : SaveRun) (before : Stage) where
  -- what is in a phase doesn't hang on the stage before it
  inside_at : (phase : Phase) → inside site triggers phase rs (at run before) ≡ inside site triggers phase rs run
  inside_at P.Refer = refl
  inside_at P.Before = refl
  inside_at P.Validate = refl
  inside_at P.Write = refl
  inside_at P.After = refl
  inside_at P.RollUp = refl

  -- some enter, and their steps are charged
  pub enters : (ps : List Pending) (w : TxnState) (n : ℕ) (meter : List ℕ) (stage : Stage) → n ≡ length ps → (n ≡ 0 → ⊥) → count_of w.meter Steps + n ≤ limit_of Steps →
      meter ≡ with_count w.meter Steps (count_of w.meter Steps + n) → stage ≡ inside site triggers phase rs run → entered site triggers ps phase rs (at run before) w ≡ Goes (at run stage) (record w { meter = meter })
  enters [] w n meter stage is some fits paid inner = absurd (some is)
  enters (p ∷ ps) w n meter stage is some fits paid inner =
      let fit : count_of w.meter Steps + length (p ∷ ps) ≤ limit_of Steps = omega arith in
      ap (λ b. charged_if b Steps (length (p ∷ ps)) w (λ u. Goes (at run (inside site triggers phase rs (at run before))) u)) (le-leb (count_of w.meter Steps + length (p ∷ ps)) (limit_of Steps) fit)
      ∙ ap (λ s. Goes (at run s) (record w { meter = with_count w.meter Steps (count_of w.meter Steps + length (p ∷ ps)) })) (inside_at phase ∙ sym inner)
      ∙ ap (λ m. Goes (at run stage) (record w { meter = m })) (ap (λ k. with_count w.meter Steps (count_of w.meter Steps + k)) (sym is) ∙ sym paid)
