-- What the stages that ask come to.
use Rattle.std.proofs.Common.{◌≡◌, List, None, Some, refl, sym, ap, ◌∙◌, subst}
use Rattle.std.specs.Prelude.{slice_get}
use Rattle.apex_rows.specs.declared.query.Answer.{Answer}
use Rattle.apex_rows.specs.declared.query.Question.{Question}
use Rattle.apex_schema.specs.declared.schema.Object.{Object}
use Rattle.row_meaning.specs.Overlays.{Overlay}
use Rattle.save_meaning.specs.Sites.{Site}
use Rattle.save_meaning.specs.declared.run.TxnState.{TxnState}
use Rattle.save_statements.specs.declared.pending.Record.{Record}
use Rattle.save_statements.specs.declared.run.Replayed.{Replayed}
use Rattle.save_statements.specs.declared.run.Replayed.TheVariants.{Came, Wants}
use Rattle.save_statements.specs.declared.run.Stage.{Stage}
use Rattle.save_statements.specs.declared.run.SaveRun.{SaveRun}
use Rattle.save_statements.specs.Inquiries.{replayed}
use Rattle.save_statements.specs.Moves.{Move, Goes, Asks, at, known, replays, with_object}
use Rattle.store_inquiries.specs.Inquiries.{Inquiry}
use Rattle.answer_replay.specs.declared.answers.Comes.{Comes}
use Rattle.answer_replay.specs.declared.answers.Comes.TheVariants as C
use Rattle.answer_replay.specs.Playing.{Replays}
use Rattle.save_stages.specs.declared.moved.Moved.{Moved}
use Rattle.save_stages.specs.declared.moved.Moved.TheVariants as M
use Rattle.save_stages.specs.Does.{IsMove, Triggers}

-- what a phase comes to, by what its code says that it did
found_these : (i : Inquiry (List Record)) (answers : List Answer) (comes : Comes (Unit {0})) (u : Unit {0}) (old new : List Record) → comes ≡ C.Found u → Replays i answers comes old new → replayed i answers ≡ Came new
found_these i answers comes u old new is h = subst (λ c. Replays i answers c old new) is h

wants_this : (i : Inquiry (List Record)) (answers : List Answer) (comes : Comes (Unit {0})) (q : Question) (old new : List Record) → comes ≡ C.Wants q → Replays i answers comes old new → (replayed i answers ≡ Wants q) × (new ≡ old)
wants_this i answers comes q old new is h = subst (λ c. Replays i answers c old new) is h

module _ (site : Site) (triggers : Triggers) (run : SaveRun) (w : TxnState) where
  -- where there is no such object
  pub ends : (go : Object → Move) (m : Moved) (r : SaveRun) → slice_get site.schema.objects run.object ≡ None → m ≡ M.Ended (known run.results) → IsMove run w (with_object site triggers (slice_get site.schema.objects run.object) go run w) m r w
  ends go m r none is = subst (λ x. IsMove run w (with_object site triggers (slice_get site.schema.objects run.object) go run w) x r w) (sym is) (ap (λ p. with_object site triggers p go run w) none)

  module _ (o : Object) (some : slice_get site.schema.objects run.object ≡ Some o) (inquiry : Overlay → Object → Inquiry (List Record)) (then : List Record → Stage) (seen : Overlay) (given answers : List Answer) (looks : seen ≡ w.overlay.now) (same : given ≡ answers) where
    -- a phase is made on its answers, and comes to its records or asks
    pub made : (found r : Replayed) → found ≡ replayed (inquiry seen o) given → found ≡ r → with_object site triggers (slice_get site.schema.objects run.object) (λ y. replays (replayed (inquiry w.overlay.now y) answers) then run w) run w ≡ replays r then run w
    made found r is e =
        ap (λ p. with_object site triggers p (λ y. replays (replayed (inquiry w.overlay.now y) answers) then run w) run w) some
        ∙ ap (λ x. replays x then run w) (ap (λ v. replayed (inquiry v o) answers) (sym looks) ∙ ap (λ xs. replayed (inquiry seen o) xs) (sym same) ∙ sym is ∙ e)

    pub goes : (comes : Comes (Unit {0})) (u : Unit {0}) (old new : List Record) → Replays (inquiry seen o) given comes old new → comes ≡ C.Found u → with_object site triggers (slice_get site.schema.objects run.object) (λ y. replays (replayed (inquiry w.overlay.now y) answers) then run w) run w ≡ Goes (at run (then new)) w
    goes comes u old new h is = made (replayed (inquiry seen o) given) (Came new) refl (found_these (inquiry seen o) given comes u old new is h)

    pub asks : (stage : List Record → Stage) (comes : Comes (Unit {0})) (q : Question) (old new : List Record) → Replays (inquiry seen o) given comes old new → comes ≡ C.Wants q →
        (with_object site triggers (slice_get site.schema.objects run.object) (λ y. replays (replayed (inquiry w.overlay.now y) answers) then run w) run w ≡ Asks q) × (at run (stage new) ≡ at run (stage old)) × (w ≡ w)
    asks stage comes q old new h is =
        let wants = wants_this (inquiry seen o) given comes q old new is h in (made (replayed (inquiry seen o) given) (Wants q) refl wants.0, ap (λ rs. at run (stage rs)) wants.1, refl)
