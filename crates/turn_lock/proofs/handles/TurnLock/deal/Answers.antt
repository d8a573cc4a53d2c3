use Rattle.std.proofs.Common.{◌≡◌, ◌+◌, [], ◌∷◌, length, slice_get, sym, ap, subst, ◌∙◌, ⊎_elim}
use Rattle.std.proofs.lemmas.List.{length_push}
use Rattle.turn_lock.specs.Turns.{first_view, split_off, with_number}
use Rattle.turn_lock.specs.Passes.{IsPassOf, opened_with, numbers, seen}
use Rattle.turn_lock.proofs.Lists.{last_or_before}
use Rattle.turn_lock.proofs.handles.TurnLock.deal.Goals as goal

pub loop-k-preserved : goal.loop-k-preserved
loop-k-preserved g c =
    let inv = c.loop-k.invariant in
    let lock = c.args.self.now in
    let pass = c.number.result in
    let items = c.in_ok-push.ensures.items in
    let own : pass.seat.table_id ≡ lock.table.shared.table_id = c.number.ensures.own ∙ (c.split-pass.ensures.own.0 ∙ inv.0) in
    let me : pass.seat.me ≡ (with_number (split_off (first_view c.args.passes (opened_with lock))) c.loop-k.k, []) =
    c.number.ensures.number ∙ ap (λ m. (with_number m.0 c.loop-k.k, m.1)) (c.split-pass.ensures.own.1 ∙ ap (λ m. (split_off m.0, [])) inv.1) in
    let good : IsPassOf lock pass × (numbers pass ≡ c.loop-k.k ∷ []) × (seen pass ≡ []) =
    ((own, ap (λ m. m.1) me, ap (λ m. m.0.turn) me, (ap (λ m. m.0.passes) me ∙ sym c.requires.passes, ap (λ m. m.0.opened) me)), ap (λ m. m.0.numbers) me, ap (λ m. m.0.seen) me) in (
      c.split-pass.ensures.kept.0 ∙ inv.0,
      c.split-pass.ensures.kept.1 ∙ inv.1,
      ap length items ∙ (length_push c.loop-k.all.items pass ∙ ap (λ n. n + 1) inv.2),
      λ k p h. ⊎_elim (λ old. inv.3 k p old)
          (λ new.
          let at : c.loop-k.k ≡ k = sym (new.0 ∙ inv.2) in
          subst (λ n. IsPassOf lock p × (numbers p ≡ n ∷ []) × (seen p ≡ [])) at (subst (λ q. IsPassOf lock q × (numbers q ≡ c.loop-k.k ∷ []) × (seen q ≡ [])) new.1 good))
          (last_or_before c.loop-k.all.items pass k p (ap (λ l. slice_get l k) (sym items) ∙ h)),
    )
