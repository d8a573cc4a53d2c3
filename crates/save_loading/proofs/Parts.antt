-- The parts of loading, one behind the other.
use Rattle.std.proofs.Common.{◌≡◌, refl, sym, ap, subst, ◌∙◌, ℕ, List, [], ◌∷◌, map, Option}
use Rattle.std.specs.Prelude.{Result, Ok, Err, IfOk}
use Rattle.apex_schema.specs.declared.schema.Object.{Object}
use Rattle.apex_rows.specs.declared.query.Question.{Question}
use Rattle.apex_rows.specs.declared.query.Answer.{Answer}
use Rattle.apex_rows.specs.declared.row.Row.{Row}
use Rattle.apex_requests.specs.declared.request.SaveRow.{SaveRow}
use Rattle.apex_requests.specs.declared.request.Ticket.{Ticket}
use Rattle.row_meaning.specs.Overlays.{Overlay}
use Rattle.save_meaning.specs.Sites.{Site}
use Rattle.save_meaning.specs.Drafts.{with_ids, untouched}
use Rattle.save_meaning.specs.Inserts.{ids_of}
use Rattle.store_inquiries.specs.Inquiries.{Inquiry, Found}
use Rattle.store_inquiries.specs.Questions.{rows_by, grab}
use Rattle.save_statements.specs.declared.pending.Act.{Act}
use Rattle.save_statements.specs.declared.pending.Act.TheVariants.{Inserting, Updating, Deleting}
use Rattle.save_statements.specs.declared.pending.Manner.{Manner}
use Rattle.save_statements.specs.declared.pending.Record.{Record}
use Rattle.save_statements.specs.Records.{going, rows_of}
use Rattle.save_statements.specs.Loading.{new_record, old_record, given_ids, admitted, next_records, load_old, load}
use Rattle.answer_replay.specs.declared.answers.Comes.{Comes}
use Rattle.answer_replay.specs.declared.answers.Comes.TheVariants as C
use Rattle.answer_replay.specs.Playing.{Plays}
use Rattle.answer_replay.proofs.Composing.{wants_on, found_on, found_last}
use Rattle.save_loading.specs.Steps.{held, behind_found}

-- ---- rows are held

module _ (ticket : Ticket) (act : Act) (by : Manner) (o : Object) (rows : List SaveRow) (before after : List Answer) (rs : List Record) (ids : List (List ℕ)) (comes : Comes (Unit {0}))
    (is : ids ≡ ids_of (rows_of (going rs))) (p : Plays (grab ticket ids) before comes after) where
  grabs : Plays (grab ticket (ids_of (rows_of (going rs)))) before comes after
  grabs = subst (λ x. Plays (grab ticket x) before comes after) is p

  pub held_wants : (q : Question) → comes ≡ C.Wants q → Plays (held ticket act by o rows rs) before (C.Wants q) after
  held_wants q e = wants_on (grab ticket (ids_of (rows_of (going rs)))) (λ u. Found (next_records act by o rows rs)) before after comes q e grabs

  pub held_found : (u : Unit {0}) (next : List Record) → comes ≡ C.Found u → next ≡ next_records act by o rows rs → Plays (held ticket act by o rows rs) before (C.Found next) after
  held_found u next e n =
      found_last (grab ticket (ids_of (rows_of (going rs)))) (λ v. next_records act by o rows rs) before after u next
      (subst (λ x. Plays (grab ticket (ids_of (rows_of (going rs)))) before x after) e grabs) (sym n)

module _ (site : Site) (overlay : Overlay) (act : Act) (by : Manner) (o : Object) (rows : List SaveRow) (before after : List Answer) where
  -- ---- access

  module _ (found : List Row) (between : List Answer) (rs : List Record) (comes : Comes (List Record)) (is : rs ≡ map (λ (r : SaveRow). old_record found r.id) rows)
      (p : Plays (admitted site overlay by o rs) before comes between) where
    admits : Plays (admitted site overlay by o (map (λ (r : SaveRow). old_record found r.id) rows)) before comes between
    admits = subst (λ x. Plays (admitted site overlay by o x) before comes between) is p

    pub access_wants : (q : Question) → comes ≡ C.Wants q → Plays (behind_found site overlay act by o rows found) before (C.Wants q) between
    access_wants q e = wants_on (admitted site overlay by o (map (λ (r : SaveRow). old_record found r.id) rows)) (λ x. held site.ticket act by o rows x) before between comes q e admits

    pub access_found : {E : Type 0} (those : List Record) (r : Result (Comes (List Record)) E) → comes ≡ C.Found those → IfOk r (λ x. Plays (held site.ticket act by o rows those) between x after) →
        IfOk r (λ x. Plays (behind_found site overlay act by o rows found) before x after)
    access_found those r e h =
        found_on (admitted site overlay by o (map (λ (q : SaveRow). old_record found q.id) rows)) (λ x. held site.ticket act by o rows x) before between after comes those r e admits h

  -- ---- rows that are there

  module _ (object : ℕ) (between : List Answer) (given wanted : List (List ℕ)) (comes : Comes (List Row)) (of : given ≡ with_ids (given_ids rows) []) (is : wanted ≡ untouched overlay given)
      (p : Plays (rows_by overlay object wanted) before comes between) where
    reads : Plays (rows_by overlay object (untouched overlay (with_ids (given_ids rows) []))) before comes between
    reads = subst (λ x. Plays (rows_by overlay object x) before comes between) (is ∙ ap (untouched overlay) of) p

    pub rows_wants : (q : Question) → comes ≡ C.Wants q → Plays (load_old site overlay act by object o rows) before (C.Wants q) between
    rows_wants q e = wants_on (rows_by overlay object (untouched overlay (with_ids (given_ids rows) []))) (λ x. behind_found site overlay act by o rows x) before between comes q e reads

    pub rows_found : {E : Type 0} (found : List Row) (r : Result (Comes (List Record)) E) → comes ≡ C.Found found → IfOk r (λ x. Plays (behind_found site overlay act by o rows found) between x after) →
        IfOk r (λ x. Plays (load_old site overlay act by object o rows) before x after)
    rows_found found r e h =
        found_on (rows_by overlay object (untouched overlay (with_ids (given_ids rows) []))) (λ x. behind_found site overlay act by o rows x) before between after comes found r e reads h

  pub loads : (object : ℕ) (comes : Comes (List Record)) → (act ≡ Inserting → ⊥) → Plays (load_old site overlay act by object o rows) before comes after → Plays (load site overlay act by object o rows) before comes after
  loads object comes other p = subst (λ i. Plays i before comes after) (is act other) p where
    is : (a : Act) → (a ≡ Inserting → ⊥) → load_old site overlay a by object o rows ≡ load site overlay a by object o rows
    is Inserting other = absurd (other refl)
    is Updating other = refl
    is Deleting other = refl

  -- ---- new rows

  pub loads_new : (object : ℕ) (rs : List Record) → act ≡ Inserting → rs ≡ map (λ (r : SaveRow). new_record site.ticket.user object o r r.id) rows → Plays (load site overlay act by object o rows) before (C.Found rs) before
  loads_new object rs a is =
      subst (λ x. Plays (load site overlay x by object o rows) before (C.Found rs) before) (sym a) (record { comes_to = ap (λ x. C.Found x) (sym is); leaves = refl })

  pub loads_old : {E : Type 0} (object : ℕ) (r : Result (Comes (List Record)) E) → (act ≡ Inserting → ⊥) → IfOk r (λ x. Plays (load_old site overlay act by object o rows) before x after) →
      IfOk r (λ x. Plays (load site overlay act by object o rows) before x after)
  loads_old object (Ok x) other h = loads object x other h
  loads_old object (Err e) other h = tt
