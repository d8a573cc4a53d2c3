-- What a transaction writes, change by change.
use Rattle.std.proofs.Common.{◌≡◌, ap, sym, ◌∙◌, ℕ, true, false, cond, List, [], ◌∷◌, ◌++◌, not}
use Rattle.std.specs.Prelude.{filter}
use Rattle.std.proofs.lemmas.List.{append_assoc, append-nil}
use Rattle.apex_rows.specs.declared.row.Row.{Row}
use Rattle.row_meaning.specs.Overlays.{Overlay, overlay_rows}
use Rattle.record_ids.specs.Ids.{is_minted_by}
use Rattle.txn_overlay.specs.declared.overlay.Change.{Change}
use Rattle.txn_overlay.specs.declared.overlay.Change.TheVariants.{Now, Gone}
use Rattle.txn_overlay.specs.Changes.{plain, gone_ids, writes_of}

abbrev pub foreign_ids : ℕ → ℕ → Overlay → List (List ℕ)
foreign_ids session request overlay = filter (λ (id : List ℕ). not (is_minted_by session request id)) (gone_ids overlay)

-- so much of the writes is there, and these changes are left
pub record Written (session request : ℕ) (puts : List Row) (drops : List (List ℕ)) (left whole : Overlay) : Type 0 where
  pub rows : puts ++ overlay_rows left ≡ overlay_rows whole
  pub gone : drops ++ foreign_ids session request left ≡ foreign_ids session request whole

module _ (session request : ℕ) (puts : List Row) (drops : List (List ℕ)) (whole : Overlay) where
  pub begins : (es : List (List ℕ × Change)) → plain es ≡ whole → puts ≡ [] → drops ≡ [] → Written session request puts drops (plain es) whole
  begins es view p d = record {
    rows = ap (λ rs. rs ++ overlay_rows (plain es)) p ∙ ap overlay_rows view;
    gone = ap (λ ids. ids ++ foreign_ids session request (plain es)) d ∙ ap (foreign_ids session request) view;
  }

  pub row_written : (later : List Row) (before after : List (List ℕ × Change)) (e : List ℕ × Change) (row : Row) →
      Written session request puts drops (plain before) whole → before ≡ e ∷ after → e.1 ≡ Now row → later ≡ puts ++ row ∷ [] →
      Written session request later drops (plain after) whole
  row_written later before after e row w b is l = record {
    rows = ap (λ rs. rs ++ overlay_rows (plain after)) l ∙ append_assoc puts (row ∷ []) (overlay_rows (plain after))
        ∙ sym (ap (λ es. puts ++ overlay_rows (plain es)) (b ∙ ap (λ k. (e.0, k) ∷ after) is)) ∙ w.rows;
    gone = sym (ap (λ es. drops ++ foreign_ids session request (plain es)) (b ∙ ap (λ k. (e.0, k) ∷ after) is)) ∙ w.gone;
  }

  pub gone_written : (later : List (List ℕ)) (before after : List (List ℕ × Change)) (e : List ℕ × Change) →
      Written session request puts drops (plain before) whole → before ≡ e ∷ after → e.1 ≡ Gone → is_minted_by session request e.0 ≡ false → later ≡ drops ++ e.0 ∷ [] →
      Written session request puts later (plain after) whole
  gone_written later before after e w b is m l = record {
    rows = sym (ap (λ es. puts ++ overlay_rows (plain es)) (b ∙ ap (λ k. (e.0, k) ∷ after) is)) ∙ w.rows;
    gone = ap (λ ids. ids ++ foreign_ids session request (plain after)) l ∙ append_assoc drops (e.0 ∷ []) (foreign_ids session request (plain after))
        ∙ sym (ap (λ es. drops ++ foreign_ids session request (plain es)) (b ∙ ap (λ k. (e.0, k) ∷ after) is) ∙ ap (λ b. drops ++ cond (not b) (e.0 ∷ foreign_ids session request (plain after)) (foreign_ids session request (plain after))) m) ∙ w.gone;
  }

  pub own_dropped : (before after : List (List ℕ × Change)) (e : List ℕ × Change) →
      Written session request puts drops (plain before) whole → before ≡ e ∷ after → e.1 ≡ Gone → is_minted_by session request e.0 ≡ true →
      Written session request puts drops (plain after) whole
  own_dropped before after e w b is m = record {
    rows = sym (ap (λ es. puts ++ overlay_rows (plain es)) (b ∙ ap (λ k. (e.0, k) ∷ after) is)) ∙ w.rows;
    gone = sym (ap (λ es. drops ++ foreign_ids session request (plain es)) (b ∙ ap (λ k. (e.0, k) ∷ after) is) ∙ ap (λ b. drops ++ cond (not b) (e.0 ∷ foreign_ids session request (plain after)) (foreign_ids session request (plain after))) m) ∙ w.gone;
  }

  pub all_written : (es : List (List ℕ × Change)) → Written session request puts drops (plain es) whole → es ≡ [] → record { puts = puts; drops = drops } ≡ writes_of session request whole
  all_written es w none =
      ap (λ rs. record { puts = rs; drops = drops }) (sym (append-nil puts) ∙ sym (ap (λ fs. puts ++ overlay_rows (plain fs)) none) ∙ w.rows)
      ∙ ap (λ ds. record { puts = overlay_rows whole; drops = ds }) (sym (append-nil drops) ∙ sym (ap (λ fs. drops ++ foreign_ids session request (plain fs)) none) ∙ w.gone)
