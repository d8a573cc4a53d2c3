-- Field by field, and level by level.
use Rattle.std.proofs.Common.{◌≡◌, refl, sym, ap, subst, ◌∙◌, ℕ, zero, suc, ◌+◌, ◌-◌, ◌<◌, ◌≤◌, Bool, true, false, List, [], ◌∷◌, ◌++◌, length, drop, get_or, append-nil, arith}
use Rattle.std.proofs.lemmas.Bool.{true≢false}
use Rattle.apex_schema.specs.declared.schema.Schema.{Schema}
use Rattle.apex_requests.specs.declared.request.Ticket.{Ticket}
use Rattle.apex_rows.specs.declared.query.Question.{Question}
use Rattle.apex_rows.specs.declared.query.Answer.{Answer}
use Rattle.apex_rows.specs.declared.row.Row.{Row}
use Rattle.row_meaning.specs.Overlays.{Overlay}
use Rattle.row_meaning.specs.Stores.{of_object}
use Rattle.save_meaning.specs.Drafts.{with_ids}
use Rattle.save_meaning.specs.Inserts.{ids_of}
use Rattle.store_inquiries.specs.Inquiries.{Inquiry, Found, and_then}
use Rattle.store_inquiries.specs.Questions.{grab}
use Rattle.save_statements.specs.declared.pending.Naming.{Naming}
use Rattle.save_statements.specs.declared.pending.Record.{Record}
use Rattle.save_statements.specs.Inquiries.{naming}
use Rattle.save_statements.specs.Records.{going, lookups, masters, rows_of}
use Rattle.save_statements.specs.Checks.{found_rows, joined, levels, naming_all}
use Rattle.indexmap.specs.IndexMap.{IndexMap}
use Rattle.answer_replay.specs.declared.answers.Comes.{Comes}
use Rattle.answer_replay.specs.declared.answers.Comes.TheVariants as C
use Rattle.answer_replay.specs.Playing.{Plays, PlaysInto, Replays}
use Rattle.answer_replay.proofs.Composing.{finds, found_first, found_last, replays, wants_on}
use Rattle.save_deletes.specs.Downward.{held_rows, next_level, settled_records, site_of, with_levels}
use Rattle.save_deletes.specs.Heads.{AreHeads, is_some_row}
use Rattle.save_deletes.proofs.Lists.{here, itself, past}
use Rattle.save_deletes.proofs.Going.{GoesOn, Same, begins, behind, ends, goes_further, in_turn, same_plays, same_then, stops}

-- ---- the rows that name others by one field

module _ (overlay : Overlay) (field : Naming) (ids : List (List ℕ)) (answers : List Answer) where
  pub by_these : (these : List (List ℕ)) (comes : Comes (List Row)) (after : List Answer) → these ≡ ids → Plays (naming overlay field these) answers comes after → Plays (naming overlay field ids) answers comes after
  by_these these comes after e p = subst (λ (is : List (List ℕ)). Plays (naming overlay field is) answers comes after) e p

  -- no Id
  pub by_none : (found : List Row) → [] ≡ ids → found ≡ [] → Plays (naming overlay field ids) answers (C.Found found) answers
  by_none found e none =
      subst (λ (is : List (List ℕ)). Plays (naming overlay field is) answers (C.Found found) answers) e
      (subst (λ (rows : List Row). Plays (naming overlay field []) answers (C.Found rows) answers) (sym none) (finds [] answers))

-- ---- field by field

module _ (overlay : Overlay) (namings : List Naming) (rows : List Row) (before now : List Answer) (all : List (Naming × List Row)) where
  pub fields_begin : all ≡ [] → GoesOn (naming_all overlay namings rows) now (naming_all overlay namings rows) now all
  fields_begin none = subst (λ (found : List (Naming × List Row)). GoesOn (naming_all overlay namings rows) now (naming_all overlay namings rows) now found) (sym none) (begins (naming_all overlay namings rows) now)

  module _ (i : ℕ) (h : GoesOn (naming_all overlay namings rows) before (naming_all overlay (drop i namings) rows) now all) where
    pub fields_end : length namings ≤ i → Plays (naming_all overlay namings rows) before (C.Found all) now
    fields_end le =
        ends (naming_all overlay namings rows) before now all all
        (subst (λ (ns : List Naming). GoesOn (naming_all overlay namings rows) before (naming_all overlay ns rows) now all) (past i namings le) h) (append-nil all)

    module _ (d : Naming) (lt : i < length namings) where
      turn : GoesOn (naming_all overlay namings rows) before (naming_all overlay (get_or namings i d ∷ drop (i + 1) namings) rows) now all
      turn = subst (λ (ns : List Naming). GoesOn (naming_all overlay namings rows) before (naming_all overlay ns rows) now all) (here i namings (get_or namings i d) lt (itself i namings d lt)) h

      pub field_wants : (q : Question) (after : List Answer) (comes : Comes (List Row)) → comes ≡ C.Wants q → Plays (naming overlay (get_or namings i d) (with_ids (ids_of (of_object (get_or namings i d).to rows)) [])) now comes after →
          Plays (naming_all overlay namings rows) before (C.Wants q) after
      field_wants q after comes e p =
          stops (naming_all overlay namings rows) before now all (naming overlay (get_or namings i d) (with_ids (ids_of (of_object (get_or namings i d).to rows)) []))
          (λ found. and_then (naming_all overlay (drop (i + 1) namings) rows) (λ more. Found ((get_or namings i d, found) ∷ more))) q after comes turn e p

      pub field_found : (found : List Row) (later : List Answer) (new : List (Naming × List Row)) (comes : Comes (List Row)) → comes ≡ C.Found found →
          Plays (naming overlay (get_or namings i d) (with_ids (ids_of (of_object (get_or namings i d).to rows)) [])) now comes later → new ≡ all ++ (get_or namings i d, found) ∷ [] →
          GoesOn (naming_all overlay namings rows) before (naming_all overlay (drop (i + 1) namings) rows) later new
      field_found found later new comes e p is =
          subst (λ (ns : List (Naming × List Row)). GoesOn (naming_all overlay namings rows) before (naming_all overlay (drop (i + 1) namings) rows) later ns) (sym is)
          (goes_further (naming_all overlay namings rows) before now all (naming overlay (get_or namings i d) (with_ids (ids_of (of_object (get_or namings i d).to rows)) []))
          (λ found. (get_or namings i d, found)) (λ found. naming_all overlay (drop (i + 1) namings) rows) found later comes turn e p)

-- ---- rows that are held

module _ (ticket : Ticket) (rows : List Row) (ids : List (List ℕ)) (before after : List Answer) (comes : Comes (Unit {0})) (e : ids ≡ with_ids (ids_of rows) []) where
  of_these : Plays (grab ticket ids) before comes after → Plays (grab ticket (with_ids (ids_of rows) [])) before comes after
  of_these p = subst (λ (is : List (List ℕ)). Plays (grab ticket is) before comes after) e p

  pub hold_wants : (q : Question) → comes ≡ C.Wants q → Plays (grab ticket ids) before comes after → Plays (held_rows ticket rows) before (C.Wants q) after
  hold_wants q w p = wants_on (grab ticket (with_ids (ids_of rows) [])) (λ u. Found rows) before after comes q w (of_these p)

  pub hold_found : (u : Unit {0}) → comes ≡ C.Found u → Plays (grab ticket ids) before comes after → Plays (held_rows ticket rows) before (C.Found rows) after
  hold_found u w p =
      found_last (grab ticket (with_ids (ids_of rows) [])) (λ u. rows) before after u rows
      (subst (λ (x : Comes (Unit {0})). Plays (grab ticket (with_ids (ids_of rows) [])) before x after) w (of_these p)) refl

-- ---- one inquiry behind another

module _ {A B : Type 0} (i : Inquiry A) (go : A → Inquiry B) (before between after : List Answer) (came : Comes A) (a : A) (e : came ≡ C.Found a) (p : Plays i before came between) where
  pub then_plays : (comes : Comes B) → Plays (go a) between comes after → Plays (and_then i go) before comes after
  then_plays comes r = found_first i go before between after a comes (subst (λ x. Plays i before x between) e p) r

  pub then_plays_into : (comes : Comes (Unit {0})) (old new : B) → PlaysInto (go a) between comes old new after → PlaysInto (and_then i go) before comes old new after
  then_plays_into (C.Found u) old new r = then_plays (C.Found new) r
  then_plays_into (C.Wants q) old new r = (then_plays (C.Wants q) r.0, r.1)

-- ---- level by level

-- rows with these heads were found last, and so many levels may still be under them
pub record Descends {S : Type 0} (schema : Schema) (ticket : Ticket) (overlay : Overlay) (start : List Row) (before : List Answer) (left : ℕ) (more : Bool) (sets : IndexMap ℕ (List (List ℕ)) S)
    (all : List (List Row)) (now : List Answer) : Type 0 where
  pub rows : List Row
  pub heads : AreHeads rows sets
  pub is_more : more ≡ is_some_row rows
  pub goes_on : GoesOn (levels (site_of schema ticket) overlay 3 start) before (levels (site_of schema ticket) overlay left rows) now all

module _ (schema : Schema) (ticket : Ticket) (overlay : Overlay) where
  -- a level under some rows, and those under it
  level_is : (n : ℕ) (row : Row) (rows : List Row) →
      Same (and_then (next_level ticket overlay (masters schema) (row ∷ rows)) (λ level. and_then (levels (site_of schema ticket) overlay n level) (λ more. Found (level ∷ more))))
      (levels (site_of schema ticket) overlay (suc n) (row ∷ rows))
  level_is n row rows =
      let asked : Inquiry (List (Naming × List Row)) = naming_all overlay (masters schema) (row ∷ rows) in
      let rest : List Row → Inquiry (List (List Row)) = λ level. and_then (levels (site_of schema ticket) overlay n level) (λ more. Found (level ∷ more)) in
      same_then
      (and_then (next_level ticket overlay (masters schema) (row ∷ rows)) rest)
      (and_then asked (λ found. and_then (held_rows ticket (found_rows found)) rest))
      (levels (site_of schema ticket) overlay (suc n) (row ∷ rows))
      (in_turn (λ found. held_rows ticket (found_rows found)) rest asked)
      (behind
      (λ found. and_then (held_rows ticket (found_rows found)) rest)
      (λ found. and_then (grab ticket (with_ids (ids_of (found_rows found)) [])) (λ u. rest (found_rows found)))
      (λ found. in_turn (λ u. Found (found_rows found)) rest (grab ticket (with_ids (ids_of (found_rows found)) [])))
      asked)

  module _ (start : List Row) (before : List Answer) where
    pub from_the_top : {S : Type 0} (more : Bool) (sets : IndexMap ℕ (List (List ℕ)) S) (all : List (List Row)) → AreHeads start sets → more ≡ is_some_row start → all ≡ [] →
        Descends schema ticket overlay start before 3 more sets all before
    from_the_top more sets all heads e none = record {
      rows = start;
      heads = heads;
      is_more = e;
      goes_on = subst (λ (ls : List (List Row)). GoesOn (levels (site_of schema ticket) overlay 3 start) before (levels (site_of schema ticket) overlay 3 start) before ls) (sym none)
          (begins (levels (site_of schema ticket) overlay 3 start) before);
    }

    under : (now : List Answer) (all : List (List Row)) (n : ℕ) (row : Row) (rows : List Row) →
        GoesOn (levels (site_of schema ticket) overlay 3 start) before (levels (site_of schema ticket) overlay (suc n) (row ∷ rows)) now all →
        GoesOn (levels (site_of schema ticket) overlay 3 start) before
        (and_then (next_level ticket overlay (masters schema) (row ∷ rows)) (λ level. and_then (levels (site_of schema ticket) overlay n level) (λ more. Found (level ∷ more)))) now all
    under now all n row rows h comes after r =
        h comes after
        (same_plays
        (and_then (next_level ticket overlay (masters schema) (row ∷ rows)) (λ level. and_then (levels (site_of schema ticket) overlay n level) (λ more. Found (level ∷ more))))
        (levels (site_of schema ticket) overlay (suc n) (row ∷ rows)) now after comes (level_is n row rows) r)

    module _ {S : Type 0} (left : ℕ) (more : Bool) (sets : IndexMap ℕ (List (List ℕ)) S) (all : List (List Row)) (now : List Answer) (d : Descends schema ticket overlay start before left more sets all now) where
      -- there are three levels
      pub at_the_bottom : left ≡ 0 → Plays (levels (site_of schema ticket) overlay 3 start) before (C.Found all) now
      at_the_bottom e =
          ends (levels (site_of schema ticket) overlay 3 start) before now all all
          (subst (λ (n : ℕ). GoesOn (levels (site_of schema ticket) overlay 3 start) before (levels (site_of schema ticket) overlay n d.rows) now all) e d.goes_on) (append-nil all)

      -- the last level has no rows
      pub at_the_end : more ≡ false → Plays (levels (site_of schema ticket) overlay 3 start) before (C.Found all) now
      at_the_end e = by left d.rows (sym d.is_more ∙ e) d.goes_on where
        by : (left : ℕ) (rows : List Row) → is_some_row rows ≡ false → GoesOn (levels (site_of schema ticket) overlay 3 start) before (levels (site_of schema ticket) overlay left rows) now all →
            Plays (levels (site_of schema ticket) overlay 3 start) before (C.Found all) now
        by zero rows e h = ends (levels (site_of schema ticket) overlay 3 start) before now all all h (append-nil all)
        by (suc n) [] e h = ends (levels (site_of schema ticket) overlay 3 start) before now all all h (append-nil all)
        by (suc n) (row ∷ rows) e h = absurd (true≢false e)

      module _ (open' : more ≡ true) (less : ℕ) (fewer : left ≡ less + 1) (comes : Comes (List Row)) (later : List Answer)
          (p : (rows : List Row) → AreHeads rows sets → Plays (next_level ticket overlay (masters schema) rows) now comes later) where
        -- a question is open
        pub level_wants : (q : Question) → comes ≡ C.Wants q → Plays (levels (site_of schema ticket) overlay 3 start) before (C.Wants q) later
        level_wants q w = by left d.rows fewer (sym d.is_more ∙ open') d.goes_on (p d.rows d.heads) where
          by : (left : ℕ) (rows : List Row) → left ≡ less + 1 → is_some_row rows ≡ true →
              GoesOn (levels (site_of schema ticket) overlay 3 start) before (levels (site_of schema ticket) overlay left rows) now all →
              Plays (next_level ticket overlay (masters schema) rows) now comes later → Plays (levels (site_of schema ticket) overlay 3 start) before (C.Wants q) later
          by zero rows f e h r = absurd (omega arith)
          by (suc n) [] f e h r = absurd (true≢false (sym e))
          by (suc n) (row ∷ rows) f e h r =
              stops (levels (site_of schema ticket) overlay 3 start) before now all (next_level ticket overlay (masters schema) (row ∷ rows))
              (λ level. and_then (levels (site_of schema ticket) overlay n level) (λ more. Found (level ∷ more))) q later comes (under now all n row rows h) w r

        -- a level was found
        pub level_found : {T : Type 0} (level : List Row) (more2 : Bool) (sets2 : IndexMap ℕ (List (List ℕ)) T) (new : List (List Row)) → comes ≡ C.Found level → AreHeads level sets2 → more2 ≡ is_some_row level →
            new ≡ all ++ level ∷ [] → Descends schema ticket overlay start before less more2 sets2 new later
        level_found level more2 sets2 new w heads m is = record {
          rows = level;
          heads = heads;
          is_more = m;
          goes_on = subst (λ (ls : List (List Row)). GoesOn (levels (site_of schema ticket) overlay 3 start) before (levels (site_of schema ticket) overlay less level) later ls) (sym is)
              (by left d.rows fewer (sym d.is_more ∙ open') d.goes_on (p d.rows d.heads));
        } where
          by : (left : ℕ) (rows : List Row) → left ≡ less + 1 → is_some_row rows ≡ true →
              GoesOn (levels (site_of schema ticket) overlay 3 start) before (levels (site_of schema ticket) overlay left rows) now all →
              Plays (next_level ticket overlay (masters schema) rows) now comes later →
              GoesOn (levels (site_of schema ticket) overlay 3 start) before (levels (site_of schema ticket) overlay less level) later (all ++ level ∷ [])
          by zero rows f e h r = absurd (omega arith)
          by (suc n) [] f e h r = absurd (true≢false (sym e))
          by (suc n) (row ∷ rows) f e h r =
              let same : n ≡ less = omega arith in
              subst (λ (k : ℕ). GoesOn (levels (site_of schema ticket) overlay 3 start) before (levels (site_of schema ticket) overlay k level) later (all ++ level ∷ [])) same
              (goes_further (levels (site_of schema ticket) overlay 3 start) before now all (next_level ticket overlay (masters schema) (row ∷ rows))
              (λ l. l) (λ l. levels (site_of schema ticket) overlay n l) level later comes (under now all n row rows h) w r)

-- ---- at the end

module _ (schema : Schema) (overlay : Overlay) (rs rs2 : List Record) (ls ls2 : List (List Row)) (before after : List Answer) (comes : Comes (List (Naming × List Row))) (r : rs2 ≡ rs) (l : ls2 ≡ ls)
    (p : Plays (naming_all overlay (lookups schema) (rows_of (going rs2) ++ joined ls2)) before comes after) where
  of_all : Plays (naming_all overlay (lookups schema) (rows_of (going rs) ++ joined ls)) before comes after
  of_all =
      subst (λ (xs : List Record). Plays (naming_all overlay (lookups schema) (rows_of (going xs) ++ joined ls)) before comes after) r
      (subst (λ (xs : List (List Row)). Plays (naming_all overlay (lookups schema) (rows_of (going rs2) ++ joined xs)) before comes after) l p)

  pub play_wants : (q : Question) → comes ≡ C.Wants q → Plays (with_levels schema overlay rs ls) before (C.Wants q) after
  play_wants q w = wants_on (naming_all overlay (lookups schema) (rows_of (going rs) ++ joined ls)) (λ found. Found (settled_records schema ls rs found)) before after comes q w of_all

  pub play_found : (found found2 : List (Naming × List Row)) (new : List Record) → comes ≡ C.Found found → found2 ≡ found → new ≡ settled_records schema ls rs found2 →
      Plays (with_levels schema overlay rs ls) before (C.Found new) after
  play_found found found2 new w f e =
      found_last (naming_all overlay (lookups schema) (rows_of (going rs) ++ joined ls)) (λ found. settled_records schema ls rs found) before after found new
      (subst (λ (x : Comes (List (Naming × List Row))). Plays (naming_all overlay (lookups schema) (rows_of (going rs) ++ joined ls)) before x after) w of_all)
      (sym (e ∙ ap (λ (found : List (Naming × List Row)). settled_records schema ls rs found) f))

pub replays_from : (i : Inquiry (List Record)) (left answers after : List Answer) (comes : Comes (Unit {0})) (old new : List Record) → left ≡ answers → PlaysInto i left comes old new after → Replays i answers comes old new
replays_from i left answers after comes old new e p = replays i answers after comes old new (subst (λ (xs : List Answer). PlaysInto i xs comes old new after) e p)
