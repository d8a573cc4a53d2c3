-- What a change replaced, put back.
use Rattle.std.proofs.Common.{◌≡◌, refl, ap, sym, subst, ◌∙◌, ℕ, ◌≤◌, ◌<◌, Bor, Bool, true, false, cond, List, [], ◌∷◌, ◌++◌, length, take, drop, Option, None, Some, arith}
use Rattle.std.specs.Prelude.{MatchOption, OnOk, OnErr, Result, Ok, Err}
use Rattle.std.specs.List.{AllByRecursion}
use Rattle.std.specs.List.Sorted.{IsStrictlySortedBy}
use Rattle.std.specs.Option.{option_map, option_copied}
use Rattle.std.specs.Ordering.{is_eq, match_ordering, ordering_reverse}
use Rattle.std.specs.Map.{keys_of, lookup, set_value, remove_entry}
use Rattle.std.specs.BTreeMap.{insert_entry, is_at}
use Rattle.std.specs.FinMap.{slice_cmp-IsAntisymmetric, nat_cmp-IsAntisymmetric}
use Rattle.std.specs.declared.cmp.Ordering.{Ordering}
use Rattle.std.specs.declared.cmp.Ordering.TheVariants.{Less, Equal, Greater}
use Rattle.std.proofs.lemmas.Cmp.{nat_list_cmp_total}
use Rattle.std.proofs.lemmas.List.{append_assoc, append-nil, drop-append-le, drop_at, take_at, length_push, length-take-le, take-append-drop, same_from_push}
use Rattle.std.proofs.lemmas.Map.Text.{is_eq-slice_cmp}
use Rattle.apex_rows.specs.declared.row.Row.{Row}
use Rattle.row_meaning.specs.Cells.{bytes_cmp}
use Rattle.row_meaning.specs.Overlays.{Overlay}
use Rattle.row_meaning.specs.Overlays as O
use Rattle.txn_overlay.specs.declared.overlay.Change.{Change}
use Rattle.txn_overlay.specs.declared.overlay.Change.TheVariants.{Now, Gone}
use Rattle.txn_overlay.specs.declared.overlay.Was.{Was}
use Rattle.txn_overlay.specs.Changes.{shown, plain, KeyFits, AllFit, changed, found_in}
use Rattle.txn_overlay.specs.Journals.{Layers, undone}
use Rattle.txn_overlay.specs.Logs.{was_by, was_at, put_back, all_back, back_to, saved_at, Logged, MarksFall}
use Rattle.txn_overlay.proofs.Steps.{same_bytes, fit_at}

-- ---- entries of a table

same_id : (a b : List ℕ) → bytes_cmp a b ≡ Equal → a ≡ b
same_id a b e = slice_cmp-IsAntisymmetric nat_cmp-IsAntisymmetric a b e

only_equal : (o : Ordering) → o ≡ ordering_reverse o → o ≡ Equal
only_equal Less e = absurd (cc)
only_equal Equal e = refl
only_equal Greater e = absurd (cc)

itself : (id : List ℕ) → bytes_cmp id id ≡ Equal
itself id = only_equal (bytes_cmp id id) (nat_list_cmp_total.antisymm id id)

abbrev Entries : Type 0
Entries = List (List ℕ × Change)

abbrev Finds : List ℕ → Entries → Option Change → Type 0
Finds id es found = lookup (is_at (bytes_cmp id)) es ≡ found

-- an Id that comes before all others isn't there
none_before : (id i : List ℕ) → bytes_cmp id i ≡ Less → (es : Entries) → AllByRecursion (λ k. bytes_cmp i k ≡ Less) (keys_of es) → Finds id es None
none_before id i l [] a = refl
none_before id i l (e ∷ es) a =
    ap (λ (o : Ordering). cond (is_eq o) (Some e.1) (lookup (is_at (bytes_cmp id)) es)) (nat_list_cmp_total.trans id i e.0 l a.0) ∙ none_before id i l es a.1

-- an entry that is new is taken out
taken_out : (id : List ℕ) (c : Change) (es : Entries) → Finds id es None → remove_entry (is_at (bytes_cmp id)) (insert_entry bytes_cmp es id c) ≡ es
taken_out id c [] h = ap (λ (o : Ordering). cond (is_eq o) [] ((id, c) ∷ [])) (itself id)
taken_out id c (e ∷ es) h = by (bytes_cmp id e.0) refl h (taken_out id c es) where
  by : (o : Ordering) → bytes_cmp id e.0 ≡ o → cond (is_eq o) (Some e.1) (lookup (is_at (bytes_cmp id)) es) ≡ None →
      (Finds id es None → remove_entry (is_at (bytes_cmp id)) (insert_entry bytes_cmp es id c) ≡ es) →
      remove_entry (is_at (bytes_cmp id)) (match_ordering o ((id, c) ∷ e ∷ es) ((e.0, c) ∷ es) (e ∷ insert_entry bytes_cmp es id c)) ≡ e ∷ es
  by Less same n more = ap (λ (o : Ordering). cond (is_eq o) (e ∷ es) ((id, c) ∷ remove_entry (is_at (bytes_cmp id)) (e ∷ es))) (itself id)
  by Equal same n more = absurd (cc)
  by Greater same n more =
      ap (λ (o : Ordering). cond (is_eq o) (insert_entry bytes_cmp es id c) (e ∷ remove_entry (is_at (bytes_cmp id)) (insert_entry bytes_cmp es id c))) same
      ∙ ap (λ (xs : Entries). e ∷ xs) (more n)

some_same : (a b : Change) → Some a ≡ Some b → a ≡ b
some_same a b e = cc

-- an entry that took another one's place gives it back
given_back : (id : List ℕ) (c w : Change) (es : Entries) → IsStrictlySortedBy bytes_cmp (keys_of es) → Finds id es (Some w) →
    set_value (is_at (bytes_cmp id)) (insert_entry bytes_cmp es id c) w ≡ es
unfolding IsStrictlySortedBy
given_back id c w [] s h = absurd (cc)
given_back id c w (e ∷ es) s h = by (bytes_cmp id e.0) refl h (given_back id c w es s.1) where
  by : (o : Ordering) → bytes_cmp id e.0 ≡ o → cond (is_eq o) (Some e.1) (lookup (is_at (bytes_cmp id)) es) ≡ Some w →
      (Finds id es (Some w) → set_value (is_at (bytes_cmp id)) (insert_entry bytes_cmp es id c) w ≡ es) →
      set_value (is_at (bytes_cmp id)) (match_ordering o ((id, c) ∷ e ∷ es) ((e.0, c) ∷ es) (e ∷ insert_entry bytes_cmp es id c)) w ≡ e ∷ es
  by Less same n more = let none = none_before id e.0 same es s.0 in absurd (cc)
  by Equal same n more =
      ap (λ (o : Ordering). cond (is_eq o) ((e.0, w) ∷ es) ((e.0, c) ∷ set_value (is_at (bytes_cmp id)) es w)) same
      ∙ ap (λ (x : Change). (e.0, x) ∷ es) (sym (some_same e.1 w n))
  by Greater same n more =
      ap (λ (o : Ordering). cond (is_eq o) ((e.0, w) ∷ insert_entry bytes_cmp es id c) (e ∷ set_value (is_at (bytes_cmp id)) (insert_entry bytes_cmp es id c) w)) same
      ∙ ap (λ (xs : Entries). e ∷ xs) (more n)

-- where there is no entry, nothing is replaced
pub nowhere : (id : List ℕ) (w : Change) (es : Entries) → Finds id es None → set_value (is_at (bytes_cmp id)) es w ≡ es
nowhere id w [] h = refl
nowhere id w (e ∷ es) h = by (is_at (bytes_cmp id) e.0) h (nowhere id w es) where
  by : (b : Bool) → cond b (Some e.1) (lookup (is_at (bytes_cmp id)) es) ≡ None → (Finds id es None → set_value (is_at (bytes_cmp id)) es w ≡ es) →
      cond b ((e.0, w) ∷ es) (e ∷ set_value (is_at (bytes_cmp id)) es w) ≡ e ∷ es
  by true n more = absurd (cc)
  by false n more = ap (λ (xs : Entries). e ∷ xs) (more n)

-- a row stands under its Id
found_fits : (id : List ℕ) (row : Row) (es : Entries) → AllFit es → Finds id es (Some (Now row)) → row.id ≡ id
found_fits id row [] fit h = absurd (cc)
found_fits id row (e ∷ es) fit h = by (bytes_cmp id e.0) refl h (found_fits id row es fit.1) where
  by : (o : Ordering) → bytes_cmp id e.0 ≡ o → cond (is_eq o) (Some e.1) (lookup (is_at (bytes_cmp id)) es) ≡ Some (Now row) → (Finds id es (Some (Now row)) → row.id ≡ id) → row.id ≡ id
  by Less same n more = more n
  by Equal same n more = subst (KeyFits e.0) (some_same e.1 (Now row) n) fit.0 ∙ sym (same_id id e.0 same)
  by Greater same n more = more n

-- entries that fit their Ids still do
pub set_fit : (id : List ℕ) (c : Change) (es : Entries) → KeyFits id c → AllFit es → AllFit (set_value (is_at (bytes_cmp id)) es c)
set_fit id c [] k fit = tt
set_fit id c (e ∷ es) k fit = by (bytes_cmp id e.0) refl (set_fit id c es k fit.1) where
  by : (o : Ordering) → bytes_cmp id e.0 ≡ o → AllFit (set_value (is_at (bytes_cmp id)) es c) → AllFit (cond (is_eq o) ((e.0, c) ∷ es) (e ∷ set_value (is_at (bytes_cmp id)) es c))
  by Less same more = (fit.0, more)
  by Equal same more = (fit_at id e.0 c (same_id id e.0 same) k, fit.1)
  by Greater same more = (fit.0, more)

pub removed_fit : (id : List ℕ) (es : Entries) → AllFit es → AllFit (remove_entry (is_at (bytes_cmp id)) es)
removed_fit id [] fit = tt
removed_fit id (e ∷ es) fit = by (is_at (bytes_cmp id) e.0) (removed_fit id es fit.1) where
  by : (b : Bool) → AllFit (remove_entry (is_at (bytes_cmp id)) es) → AllFit (cond b es (e ∷ remove_entry (is_at (bytes_cmp id)) es))
  by true more = fit.1
  by false more = (fit.0, more)

-- ---- the same of plain overlays

pub plain_set : (id : List ℕ) (c : Change) (es : Entries) → plain (set_value (is_at (bytes_cmp id)) es c) ≡ set_value (is_at (bytes_cmp id)) (plain es) (shown c)
plain_set id c [] = refl
plain_set id c (e ∷ es) = by (is_at (bytes_cmp id) e.0) (plain_set id c es) where
  by : (b : Bool) → plain (set_value (is_at (bytes_cmp id)) es c) ≡ set_value (is_at (bytes_cmp id)) (plain es) (shown c) →
      plain (cond b ((e.0, c) ∷ es) (e ∷ set_value (is_at (bytes_cmp id)) es c)) ≡ cond b ((e.0, shown c) ∷ plain es) ((e.0, shown e.1) ∷ set_value (is_at (bytes_cmp id)) (plain es) (shown c))
  by true h = refl
  by false h = ap (λ (v : Overlay). (e.0, shown e.1) ∷ v) h

pub plain_removed : (id : List ℕ) (es : Entries) → plain (remove_entry (is_at (bytes_cmp id)) es) ≡ remove_entry (is_at (bytes_cmp id)) (plain es)
plain_removed id [] = refl
plain_removed id (e ∷ es) = by (is_at (bytes_cmp id) e.0) (plain_removed id es) where
  by : (b : Bool) → plain (remove_entry (is_at (bytes_cmp id)) es) ≡ remove_entry (is_at (bytes_cmp id)) (plain es) →
      plain (cond b es (e ∷ remove_entry (is_at (bytes_cmp id)) es)) ≡ cond b (plain es) ((e.0, shown e.1) ∷ remove_entry (is_at (bytes_cmp id)) (plain es))
  by true h = refl
  by false h = ap (λ (v : Overlay). (e.0, shown e.1) ∷ v) h

-- what a change replaced, put back, leads to what was there before it
pub put_back_is : (id : List ℕ) (c : Change) (es : Entries) → AllFit es → IsStrictlySortedBy bytes_cmp (keys_of es) → (found : Option Change) → Finds id es found →
    put_back (was_at id found) (plain (insert_entry bytes_cmp es id c)) ≡ plain es
put_back_is id c es fit s None h = sym (plain_removed id (insert_entry bytes_cmp es id c)) ∙ ap plain (taken_out id c es h)
put_back_is id c es fit s (Some w) h = by w h where
  by : (w : Change) → Finds id es (Some w) → put_back (was_by id w) (plain (insert_entry bytes_cmp es id c)) ≡ plain es
  by (Now row) h =
      ap (λ (i : List ℕ). set_value (is_at (bytes_cmp i)) (plain (insert_entry bytes_cmp es id c)) (O.Now row)) (found_fits id row es fit h)
      ∙ sym (plain_set id (Now row) (insert_entry bytes_cmp es id c)) ∙ ap plain (given_back id c (Now row) es s h)
  by Gone h = sym (plain_set id Gone (insert_entry bytes_cmp es id c)) ∙ ap plain (given_back id c Gone es s h)

-- what is behind a reference, and then how it is shown
pub seen_through : {A B : Type 0} (f : A → B) (r : Option (Bor A)) → option_map (λ (x : Bor A). f x.now) r ≡ option_map f (option_copied r)
seen_through f None = refl
seen_through f (Some x) = refl

-- the change of an Id
pub found_is : (id : List ℕ) (es : Entries) → option_map shown (lookup (is_at (bytes_cmp id)) es) ≡ found_in (plain es) id
found_is id [] = refl
found_is id (e ∷ es) = by _ _ (is_eq-slice_cmp id e.0 ∙ same_bytes id e.0) (found_is id es) where
  by : (b d : Bool) → b ≡ d → option_map shown (lookup (is_at (bytes_cmp id)) es) ≡ found_in (plain es) id →
      option_map shown (cond b (Some e.1) (lookup (is_at (bytes_cmp id)) es)) ≡ cond d (Some (shown e.1)) (found_in (plain es) id)
  by true true h more = refl
  by false false h more = more
  by true false h more = absurd (cc)
  by false true h more = absurd (cc)

-- ---- logs

back_append : (xs ys : List Was) (v : Overlay) → all_back (xs ++ ys) v ≡ all_back xs (all_back ys v)
back_append [] ys v = refl
back_append (x ∷ xs) ys v = ap (put_back x) (back_append xs ys v)

-- so much of a log was taken back
pub record Taken (mark : ℕ) (log : List Was) (now : Overlay) (whole : List Was) (last : Overlay) : Type 0 where
  pub rest : List Was
  pub parts : whole ≡ log ++ rest
  pub within : mark ≤ length log
  pub back : now ≡ all_back rest last

pub none_taken : (mark : ℕ) (log : List Was) (now : Overlay) → mark ≤ length log → Taken mark log now log now
none_taken mark log now h = record { rest = []; parts = sym (append-nil log); within = h; back = refl }

pub one_taken : (mark : ℕ) (log later : List Was) (now next : Overlay) (whole : List Was) (last : Overlay) (was : Was) →
    Taken mark log now whole last → mark < length log → log ≡ later ++ was ∷ [] → next ≡ put_back was now → Taken mark later next whole last
one_taken mark log later now next whole last was t more e n = record {
  rest = was ∷ t.rest;
  parts = t.parts ∙ ap (λ (xs : List Was). xs ++ t.rest) e ∙ append_assoc later (was ∷ []) t.rest;
  within = let l = ap (λ (xs : List Was). length xs) e ∙ length_push later was in omega (arith, l, more);
  back = n ∙ ap (put_back was) t.back;
}

module _ (mark : ℕ) (log : List Was) (now : Overlay) (whole : List Was) (last : Overlay) (t : Taken mark log now whole last) (done : length log ≤ mark) where
  exact : length log ≡ mark
  exact = let w = t.within in omega (arith, w, done)

  pub taken_log : log ≡ take mark whole
  taken_log = sym (take_at log t.rest mark exact) ∙ ap (take mark) (sym t.parts)

  pub taken_overlay : now ≡ back_to mark whole last
  taken_overlay = t.back ∙ ap (λ (ws : List Was). all_back ws last) (sym (ap (drop mark) t.parts ∙ drop_at log t.rest mark exact))

-- ---- marks

pub fall_higher : (low high : ℕ) (marks : List ℕ) → low ≤ high → MarksFall low marks → MarksFall high marks
fall_higher low high [] h f = tt
fall_higher low high (m ∷ ms) h f = (omega (arith, h, f.0), f.1)

-- an overlay that is saved stays so while the log grows
pub saved_stays : (marks : List ℕ) (log later : List Was) (before after : Overlay) → MarksFall (length log) marks → Logged log later before after →
    saved_at marks later after ≡ saved_at marks log before
saved_stays [] log later before after f l = refl
saved_stays (m ∷ ms) log later before after f l =
    ap (λ (v : Overlay). v ∷ saved_at ms later after) same ∙ ap (λ (vs : List Overlay). back_to m log before ∷ vs) (saved_stays ms log later before after (fall_higher m (length log) ms f.0 f.1) l)
  where
    same : back_to m later after ≡ back_to m log before
    same =
        ap (λ (ws : List Was). all_back (drop m ws) after) l.added ∙ ap (λ (ws : List Was). all_back ws after) (drop-append-le m log (l.was ∷ []) f.0)
        ∙ back_append (drop m log) (l.was ∷ []) after ∙ ap (all_back (drop m log)) l.back

pub logged_fall : (marks : List ℕ) (log later : List Was) (before after : Overlay) → MarksFall (length log) marks → Logged log later before after → MarksFall (length later) marks
logged_fall marks log later before after f l =
    let n = ap (λ (xs : List Was). length xs) l.added ∙ length_push log l.was in fall_higher (length log) (length later) marks (omega (arith, n)) f

pub fall_either : {X E : Type 0} (r : Result X E) (marks : List ℕ) (log later : List Was) (before after : Overlay) → MarksFall (length log) marks →
    OnOk r (Logged log later before after) → OnErr r (later ≡ log) → MarksFall (length later) marks
fall_either (Ok x) marks log later before after f l e = logged_fall marks log later before after f l
fall_either (Err x) marks log later before after f l e = subst (λ (ws : List Was). MarksFall (length ws) marks) (sym e) f

-- one that is saved further out stays so while the log shrinks to a mark
pub saved_further : (mark : ℕ) (marks : List ℕ) (log : List Was) (now : Overlay) → mark ≤ length log → MarksFall mark marks →
    saved_at marks (take mark log) (back_to mark log now) ≡ saved_at marks log now
saved_further mark [] log now h f = refl
saved_further mark (m ∷ ms) log now h f =
    ap (λ (v : Overlay). v ∷ saved_at ms (take mark log) (back_to mark log now)) same ∙ ap (λ (vs : List Overlay). back_to m log now ∷ vs) (saved_further mark ms log now h (fall_higher m mark ms f.0 f.1))
  where
    same : back_to m (take mark log) (back_to mark log now) ≡ back_to m log now
    same =
        sym (back_append (drop m (take mark log)) (drop mark log) now)
        ∙ ap (λ (ws : List Was). all_back ws now)
        (sym (drop-append-le m (take mark log) (drop mark log) (subst (λ (n : ℕ). m ≤ n) (sym (length-take-le mark log h)) f.0)) ∙ ap (drop m) (take-append-drop mark log))

-- ---- a journal's layers

abbrev pub layers : List ℕ → List Was → Overlay → Layers
layers marks log now = record { now = now; saved = saved_at marks log now }

abbrev with_change : List ℕ → O.Change → Layers → Layers
with_change id c j = record { now = changed id c j.now; saved = j.saved }

module _ (marks : List ℕ) (log : List Was) (v : Overlay) (j : Layers) (is : layers marks log v ≡ j) where
  -- an Id is changed, and what stood there is logged
  pub changed_logged : (later : List Was) (w : Overlay) (id : List ℕ) (c : O.Change) → MarksFall (length log) marks → w ≡ changed id c v → Logged log later v w →
      layers marks later w ≡ record { now = changed id c j.now; saved = j.saved }
  changed_logged later w id c f e l =
      ap (λ (vs : List Overlay). record { now = w; saved = vs }) (saved_stays marks log later v w f l)
      ∙ ap (λ (x : Overlay). record { now = x; saved = saved_at marks log v }) e ∙ ap (with_change id c) is

  pub changed_if_ok : {X E : Type 0} (r : Result X E) (later : List Was) (w : Overlay) (id : List ℕ) (c : O.Change) → MarksFall (length log) marks →
      OnOk r (w ≡ changed id c v) → OnOk r (Logged log later v w) → OnOk r (layers marks later w ≡ record { now = changed id c j.now; saved = j.saved })
  changed_if_ok (Ok x) later w id c f e l = changed_logged later w id c f e l
  changed_if_ok (Err x) later w id c f e l = tt

  -- the innermost statement ends, and what it changed is undone
  pub gone_back : (mark : ℕ) (later : List ℕ) (left : List Was) (w : Overlay) → MarksFall (length log) marks → marks ≡ mark ∷ later → left ≡ take mark log → w ≡ back_to mark log v →
      layers later left w ≡ undone j
  gone_back mark later left w f m l e =
      let fall : MarksFall (length log) (mark ∷ later) = subst (MarksFall (length log)) m f in
      ap (λ (ws : List Was). layers later ws w) l ∙ ap (λ (x : Overlay). layers later (take mark log) x) e
      ∙ ap (λ (vs : List Overlay). record { now = back_to mark log v; saved = vs }) (saved_further mark later log v fall.0 fall.1)
      ∙ ap undone (sym (ap (λ (ms : List ℕ). layers ms log v) m) ∙ is)

-- the marks without the top
pub popped : (r : Option ℕ) (old new : List ℕ) → MatchOption r ((old ≡ []) × (new ≡ [])) (λ top. old ≡ top ∷ new) → new ≡ drop 1 old
popped None old new h = h.1 ∙ sym (ap (drop 1) h.0)
popped (Some m) old new h = sym (ap (drop 1) h)

pub fall_popped : (top : ℕ) (marks later : List ℕ) → MarksFall top marks → later ≡ drop 1 marks → MarksFall top later
fall_popped top [] later f l = subst (MarksFall top) (sym l) tt
fall_popped top (m ∷ ms) later f l = subst (MarksFall top) (sym l) (fall_higher m top ms f.0 f.1)

-- an entry that was added and taken again
pub pushed_gone : (r : Option Was) (log : List Was) (w : Was) (more later : List Was) → more ≡ log ++ w ∷ [] → MatchOption r ((more ≡ []) × (later ≡ [])) (λ last. more ≡ later ++ last ∷ []) → later ≡ log
pushed_gone None log w more later e h = absurd (nothing log (sym e ∙ h.0)) where
  nothing : (xs : List Was) → xs ++ w ∷ [] ≡ [] → ⊥
  nothing [] n = cc
  nothing (x ∷ xs) n = cc
pushed_gone (Some last) log w more later e h = (same_from_push later log last w (sym h ∙ e)).0
