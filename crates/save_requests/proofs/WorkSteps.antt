-- What a save is, and that it is one thing.
use Rattle.std.proofs.Common.{◌≡◌, inl, inr, ℕ, List, slice_get, Some, None, refl, sym, ap, ap₂, ◌∙◌, subst}
use Rattle.std.proofs.lemmas.Option.{same_Some}
use Rattle.fault_words.specs.declared.fault.Fault.{Fault}
use Rattle.fault_words.specs.declared.fault.FaultWord.{FaultWord}
use Rattle.apex_requests.specs.declared.request.SaveRow.{SaveRow}
use Rattle.apex_requests.specs.declared.request.Work.{Work}
use Rattle.apex_requests.specs.declared.request.Work.TheVariants.{Apex, Save, Refused}
use Rattle.apex_schema.specs.declared.schema.Object.{Object}
use Rattle.apex_schema.specs.declared.schema.Schema.{Schema}
use Rattle.schema_plans.specs.Plans.{bind}
use Rattle.bundle_read.specs.declared.entries.SaveEntry.{SaveEntry}
use Rattle.save_requests.specs.Saves.{AreRecords, IsFirstBad, IsOf, IsWork, IsOnlyWork, OnlyRecords, object_number, fault_in}
use Rattle.save_requests.proofs.RecordSteps.{not_both, one_bad}

module _ (schema : Schema) (save : SaveEntry) (number : ℕ) (object : Object) (of : IsOf schema save number object) where
  same_number : (n : ℕ) → object_number schema save ≡ Some n → n ≡ number
  same_number n e = same_Some n number (sym e ∙ of.number_is)

  same_object : (n : ℕ) (o : Object) → IsOf schema save n o → o ≡ object
  same_object n o k = same_Some o object (sym k.object_is ∙ ap (slice_get schema.objects) (same_number n k.number_is) ∙ of.object_is)

  there : bind (object_number schema save) (slice_get schema.objects) ≡ None → ⊥
  there none = absurd (let e = sym (ap (λ n. bind n (slice_get schema.objects)) of.number_is ∙ of.object_is) ∙ none in cc)

  pub saved : (rows : List SaveRow) → OnlyRecords object.fields save.rows rows → IsOnlyWork schema save (Save save.op number save.all_or_none rows)
  saved rows h = ((refl, refl, record { o = object; of = of; records = h.0 }), only) where
    only : (other : Work) → IsWork schema save other → other ≡ Save save.op number save.all_or_none rows
    only (Apex n) k = absurd k
    only (Refused fault) (inl (none, e)) = absurd (there none)
    only (Refused fault) (inr (n, o, row, word, k, bad, e)) =
        absurd (not_both object.fields 0 save.rows row word rows (subst (λ (x : Object). IsFirstBad x.fields 0 save.rows row word) (same_object n o k) bad) h.0)
    only (Save op n all others) (a, b, k) =
        let en = same_number n k.of.number_is in
        let er : others ≡ rows = h.1 others (subst (λ (x : Object). AreRecords x.fields 0 save.rows others) (same_object n k.o k.of) k.records) in
        λ i. Save (a i) (en i) (b i) (er i)

  pub refused : (row : ℕ) (word : FaultWord) (fault : Fault) → IsFirstBad object.fields 0 save.rows row word → ((rows : List SaveRow) → AreRecords object.fields 0 save.rows rows → ⊥) → fault ≡ fault_in row word → IsOnlyWork schema save (Refused fault)
  refused row word fault bad none e = (inr (number, object, row, word, of, bad, e), only) where
    only : (other : Work) → IsWork schema save other → other ≡ Refused fault
    only (Apex n) k = absurd k
    only (Save op n all others) (a, b, k) = absurd (none others (subst (λ (x : Object). AreRecords x.fields 0 save.rows others) (same_object n k.o k.of) k.records))
    only (Refused other) (inl (no_object, f)) = absurd (there no_object)
    only (Refused other) (inr (n, o, to, v, k, worse, f)) =
        let same = one_bad object.fields 0 save.rows to row v word (subst (λ (x : Object). IsFirstBad x.fields 0 save.rows to v) (same_object n o k) worse) bad in
        ap Refused (f ∙ ap₂ fault_in same.0 same.1 ∙ sym e)
