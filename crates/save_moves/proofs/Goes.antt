-- From one move to where a statement stops.
use Rattle.std.proofs.Common.{◌≡◌, ℕ, zero, suc, ◌<◌, refl, sym, ap, ◌∙◌, subst}
use Rattle.save_meaning.specs.Sites.{Site}
use Rattle.save_meaning.specs.declared.run.TxnState.{TxnState}
use Rattle.save_statements.specs.declared.run.SaveRun.{SaveRun}
use Rattle.save_statements.specs.declared.run.Stage.{Stage}
use Rattle.save_statements.specs.declared.run.Stage.TheVariants as S
use Rattle.save_statements.specs.Moves.{Goes, at, move}
use Rattle.save_measures.specs.Paid.{IsPaid}
use Rattle.save_measures.specs.Measure.{Triggers, weight}
use Rattle.save_measures.specs.Laws.{Lowers, MovesEnd, Pays, MovesPay}
use Rattle.save_stages.specs.Does.{IsMove}
use Rattle.save_moves.specs.declared.run.Stopped.{Stopped}
use Rattle.save_moves.specs.declared.run.Stopped.TheVariants as E
use Rattle.save_moves.specs.Advances.{moved_of, GoesOn, Advances}
use Rattle.save_moves.specs.Goings.{Gone}

-- a run that is put back to its stage is as it was
pub at_stage : (run : SaveRun) (st : Stage) → st ≡ run.stage → at (at run S.Next) st ≡ run
at_stage run st e = ap (λ s. at run s) e

module _ (site : Site) (triggers : Triggers) where
  -- one move more at the end
  goes_more : (n : ℕ) (run : SaveRun) (w : TxnState) (mid : SaveRun) (u : TxnState) (last : SaveRun) (v : TxnState) → GoesOn site triggers n run w mid u → move site triggers mid u ≡ Goes last v → GoesOn site triggers (suc n) run w last v
  goes_more zero run w mid u last v g e = (last, v, same g.0 g.1 ∙ e, (refl, refl)) where
    same : run ≡ mid → w ≡ u → move site triggers run w ≡ move site triggers mid u
    same a b = ap (λ r. move site triggers r w) a ∙ ap (λ x. move site triggers mid x) b
  goes_more (suc n) run w mid u last v g e = (g.0, g.1, g.2, goes_more n g.0 g.1 mid u last v g.3 e)

  pub gone_first : (run : SaveRun) (w : TxnState) → IsPaid w → Gone site triggers run w run w
  gone_first run w p = record { moves = 0; goes = (refl, refl); paid = p }

  pub gone_more : MovesPay → (run : SaveRun) (w : TxnState) (mid : SaveRun) (u : TxnState) (last : SaveRun) (v : TxnState) → Gone site triggers run w mid u → move site triggers mid u ≡ Goes last v → Gone site triggers run w last v
  gone_more pays run w mid u last v g d = record {
    moves = suc g.moves;
    goes = goes_more g.moves run w mid u last v g.goes d;
    paid = subst Pays d (pays site triggers mid u g.paid);
  }

  pub fewer : MovesEnd → (mid : SaveRun) (u : TxnState) (last : SaveRun) (v : TxnState) → move site triggers mid u ≡ Goes last v → weight triggers last < weight triggers mid
  fewer ends mid u last v d = subst (Lowers triggers mid) d (ends site triggers mid u)

  -- what is paid where it stops
  paid_at : MovesPay → (s : Stopped) (run : SaveRun) (w : TxnState) (r : SaveRun) (v : TxnState) → IsPaid w → IsMove run w (move site triggers run w) (moved_of s) r v → IsPaid v
  paid_at pays (E.Asked q) run w r v p d = subst IsPaid (sym d.2) p
  paid_at pays (E.Fired n c) run w r v p d = subst IsPaid (sym d.2) p
  paid_at pays (E.Ended outcomes) run w r v p d = subst Pays d (pays site triggers run w p)
  paid_at pays (E.Threw why) run w r v p d = subst Pays d (pays site triggers run w p)
  paid_at pays (E.Halted limit) run w r v p d = subst Pays d (pays site triggers run w p)

  pub stops_at : MovesPay → (s : Stopped) (run : SaveRun) (w : TxnState) (last : SaveRun) (u : TxnState) (r : SaveRun) (v : TxnState) → Gone site triggers run w last u → IsMove last u (move site triggers last u) (moved_of s) r v → Advances site triggers run w s r v
  stops_at pays s run w last u r v g d = record {
    moves = g.moves;
    last = last;
    before = u;
    goes = g.goes;
    stops = d;
    paid = paid_at pays s last u r v g.paid d;
  }
