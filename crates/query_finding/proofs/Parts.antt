-- The parts of a query, one behind the other.
use Rattle.std.proofs.Common.{◌≡◌, sym, ap, subst, ◌∙◌, ℕ, Bool, true, List, [], map, None}
use Rattle.std.specs.Prelude.{Result, IfOk}
use Rattle.apex_schema.specs.declared.schema.Mode.{Mode}
use Rattle.apex_rows.specs.declared.query.Bind.{Bind}
use Rattle.apex_rows.specs.declared.query.Path.{Path}
use Rattle.apex_rows.specs.declared.query.Query.{Query}
use Rattle.apex_rows.specs.declared.query.Query.TheViews.{out-Query}
use Rattle.apex_rows.specs.declared.query.SubQuery.{SubQuery}
use Rattle.apex_rows.specs.declared.query.Question.{Question}
use Rattle.apex_rows.specs.declared.query.Answer.{Answer}
use Rattle.apex_rows.specs.declared.row.Row.{Row}
use Rattle.apex_rows.specs.declared.row.Found.{Found}
use Rattle.row_meaning.specs.Overlays.{Overlay}
use Rattle.save_meaning.specs.Inserts.{ids_of}
use Rattle.save_meaning.specs.Sites.{Site}
use Rattle.store_inquiries.specs.Inquiries.{Found as Done}
use Rattle.store_inquiries.specs.Questions.{rising}
use Rattle.query_meaning.specs.Parents.{parents_of}
use Rattle.query_meaning.specs.Queries.{Gathered, cut, finding, gather, is_hidden, read_all_under, read_parents, shown_by, sifted, with_children}
use Rattle.query_rows.specs.Cuts.{cut_of}
use Rattle.answer_replay.specs.declared.answers.Comes.{Comes}
use Rattle.answer_replay.specs.declared.answers.Comes.TheVariants as C
use Rattle.answer_replay.specs.Playing.{Plays}
use Rattle.answer_replay.proofs.Composing.{found_last, found_on, wants_on}
use Rattle.query_finding.specs.Steps.{behind_parents, found_of, further_of, kept, test_of}

abbrev with_known : List Row → List Row → Gathered
with_known known rows = record { rows = rows; known = known }

module _ (site : Site) (overlay : Overlay) (mode : Mode) (binds : List Bind) (q : Query) (before : List Answer) where
  -- ---- rows that were read

  module _ (test : Row → Bool) (rows : List Row) where
    -- sharing

    module _ (known left : List Row) (comes : Comes (List Row)) (after : List Answer) (is : left ≡ kept site.schema binds q test rows known)
        (p : Plays (shown_by site overlay (is_hidden site overlay mode (out-Query q).object) left) before comes after) where
      shows : Plays (shown_by site overlay (is_hidden site overlay mode (out-Query q).object) (kept site.schema binds q test rows known)) before comes after
      shows = subst (λ (x : List Row). Plays (shown_by site overlay (is_hidden site overlay mode (out-Query q).object) x) before comes after) is p

      pub seen_wants : (r : Question) → comes ≡ C.Wants r → Plays (behind_parents site overlay mode binds q test rows known) before (C.Wants r) after
      seen_wants r e =
          wants_on (shown_by site overlay (is_hidden site overlay mode (out-Query q).object) (kept site.schema binds q test rows known)) (λ (seen : List Row). Done (with_known known seen)) before after comes r e shows

      pub seen_found : (seen : List Row) (g : Gathered) → comes ≡ C.Found seen → g ≡ record { rows = seen; known = known } → Plays (behind_parents site overlay mode binds q test rows known) before (C.Found g) after
      seen_found seen g e n =
          found_last (shown_by site overlay (is_hidden site overlay mode (out-Query q).object) (kept site.schema binds q test rows known)) (with_known known) before after seen g
          (subst (λ (x : Comes (List Row)). Plays (shown_by site overlay (is_hidden site overlay mode (out-Query q).object) (kept site.schema binds q test rows known)) before x after) e shows) (sym n)

    -- parents

    module _ (paths : List Path) (slice : List Row) (comes : Comes (List Row)) (between : List Answer) (ps : paths ≡ parents_of q) (rs : slice ≡ rows)
        (p : Plays (read_parents site overlay (out-Query q).object paths slice []) before comes between) where
      reads : Plays (read_parents site overlay (out-Query q).object (parents_of q) rows []) before comes between
      reads =
          subst (λ (x : List Row). Plays (read_parents site overlay (out-Query q).object (parents_of q) x []) before comes between) rs
          (subst (λ (x : List Path). Plays (read_parents site overlay (out-Query q).object x slice []) before comes between) ps p)

      pub parents_want : (r : Question) → comes ≡ C.Wants r → Plays (sifted site overlay mode binds q test rows) before (C.Wants r) between
      parents_want r e =
          wants_on (read_parents site overlay (out-Query q).object (parents_of q) rows []) (λ (known : List Row). behind_parents site overlay mode binds q test rows known) before between comes r e reads

      pub parents_found : {E : Type 0} (known : List Row) (after : List Answer) (r : Result (Comes Gathered) E) → comes ≡ C.Found known →
          IfOk r (λ x. Plays (behind_parents site overlay mode binds q test rows known) between x after) → IfOk r (λ x. Plays (sifted site overlay mode binds q test rows) before x after)
      parents_found known after r e h =
          found_on (read_parents site overlay (out-Query q).object (parents_of q) rows []) (λ (known : List Row). behind_parents site overlay mode binds q test rows known) before between after comes known r e reads h

  -- ---- rows that were found

  module _ (known rows : List Row) (subs : List SubQuery) (slice : List Row) (ids : List (List ℕ)) (comes : Comes (List (SubQuery × Gathered))) (after : List Answer) (ss : subs ≡ (out-Query q).children)
      (rs : slice ≡ rows) (is : ids ≡ rising (ids_of slice)) (p : Plays (read_all_under site overlay mode binds subs ids) before comes after) where
    unders : Plays (read_all_under site overlay mode binds (out-Query q).children (rising (ids_of rows))) before comes after
    unders =
        subst (λ (x : List Row). Plays (read_all_under site overlay mode binds (out-Query q).children (rising (ids_of x))) before comes after) rs
        (subst (λ (x : List (List ℕ)). Plays (read_all_under site overlay mode binds (out-Query q).children x) before comes after) is
        (subst (λ (x : List SubQuery). Plays (read_all_under site overlay mode binds x ids) before comes after) ss p))

    pub children_want : (r : Question) → comes ≡ C.Wants r → Plays (with_children site overlay mode binds q known rows) before (C.Wants r) after
    children_want r e =
        wants_on (read_all_under site overlay mode binds (out-Query q).children (rising (ids_of rows))) (λ (under : List (SubQuery × Gathered)). Done (map (found_of site.schema binds q known under) rows)) before after comes r e unders

    pub children_found : (under those : List (SubQuery × Gathered)) (found : List Found) → comes ≡ C.Found under → those ≡ under → found ≡ map (found_of site.schema binds q known those) rows →
        Plays (with_children site overlay mode binds q known rows) before (C.Found found) after
    children_found under those found e t n =
        found_last (read_all_under site overlay mode binds (out-Query q).children (rising (ids_of rows))) (λ (under : List (SubQuery × Gathered)). map (found_of site.schema binds q known under) rows) before after under found
        (subst (λ (x : Comes (List (SubQuery × Gathered))). Plays (read_all_under site overlay mode binds (out-Query q).children (rising (ids_of rows))) before x after) e unders)
        (ap (λ (under : List (SubQuery × Gathered)). map (found_of site.schema binds q known under) rows) (sym t) ∙ sym n)

  -- what was gathered is cut
  pub cut_found : {E : Type 0} (g : Gathered) (rows known left : List Row) (after : List Answer) (r : Result (Comes (List Found)) E) → rows ≡ g.rows → known ≡ g.known →
      left ≡ cut_of (record { schema = site.schema; known = known }) binds q rows → IfOk r (λ x. Plays (with_children site overlay mode binds q known left) before x after) →
      IfOk r (λ x. Plays (with_children site overlay mode binds q g.known (cut site overlay mode binds q g.known g.rows)) before x after)
  cut_found g rows known left after r e k l h =
      subst (λ (x : List Row). IfOk r (λ y. Plays (with_children site overlay mode binds q x (cut site overlay mode binds q x g.rows)) before y after)) k
      (subst (λ (x : List Row). IfOk r (λ y. Plays (with_children site overlay mode binds q known (cut site overlay mode binds q known x)) before y after)) e
      (subst (λ (x : List Row). IfOk r (λ y. Plays (with_children site overlay mode binds q known x) before y after)) l h))

  -- ---- the whole

  module _ (ids : List (List ℕ)) (comes : Comes Gathered) (between : List Answer) (p : Plays (gather site overlay mode binds q (further_of None ids) (test_of None ids)) before comes between) where
    pub finding_wants : (r : Question) → comes ≡ C.Wants r → Plays (finding site overlay mode binds q) before (C.Wants r) between
    finding_wants r e =
        wants_on (gather site overlay mode binds q [] (λ (r : Row). true)) (λ (found : Gathered). with_children site overlay mode binds q found.known (cut site overlay mode binds q found.known found.rows)) before between comes r e p

    pub finding_found : {E : Type 0} (g : Gathered) (after : List Answer) (r : Result (Comes (List Found)) E) → comes ≡ C.Found g →
        IfOk r (λ x. Plays (with_children site overlay mode binds q g.known (cut site overlay mode binds q g.known g.rows)) between x after) → IfOk r (λ x. Plays (finding site overlay mode binds q) before x after)
    finding_found g after r e h =
        found_on (gather site overlay mode binds q [] (λ (r : Row). true)) (λ (found : Gathered). with_children site overlay mode binds q found.known (cut site overlay mode binds q found.known found.rows)) before between after comes g r e p h
