-- What came of the records of a statement, at their places, is what came of them in the order of its list.
use Rattle.std.proofs.Common.{◌≡◌, refl, ap, sym, ◌∙◌, arith, ℕ, zero, suc, ◌+◌, ◌≤◌, ◌<◌, Bool, true, false, cond, List, [], ◌∷◌, ◌++◌, length, take, drop, map, Option, None, Some}
use Rattle.std.specs.Prelude.{eqb, filter, slice_set, ◌≢◌}
use Rattle.std.proofs.lemmas.Bool.{eq-eqb, eqb-true}
use Rattle.std.proofs.lemmas.List.{take-append-drop}
use Rattle.apex_requests.specs.declared.request.Op.{Op}
use Rattle.apex_requests.specs.declared.request.Op.TheVariants as Op'
use Rattle.apex_requests.specs.declared.request.SaveRow.{SaveRow}
use Rattle.save_meaning.specs.Inserts.{chunk_most}
use Rattle.save_statements.specs.declared.pending.Act.{Act}
use Rattle.save_statements.specs.declared.pending.Act.TheVariants.{Inserting, Updating, Deleting}
use Rattle.save_statements.specs.declared.pending.Record.{Record}
use Rattle.save_statements.specs.declared.pending.Record.TheVariants.{Going, Wrong}
use Rattle.save_statements.specs.declared.statement.Placed.{Placed}
use Rattle.save_statements.specs.declared.statement.RecordOutcome.{RecordOutcome}
use Rattle.save_statements.specs.declared.statement.Told.{Told}
use Rattle.save_statements.specs.declared.statement.Chunk.{Chunk}
use Rattle.save_statements.specs.Statements.{placed, has_id, cut, all_cut, chunks, told, failed_in, left_over, given_up, at_place, in_order}
use Rattle.save_statements.specs.Moves.{none_yet, noted, known}

eqb_false : (a b : ℕ) → a ≢ b → eqb a b ≡ false
eqb_false a b h = by (eqb a b) refl where
  by : (x : Bool) → eqb a b ≡ x → x ≡ false
  by true e = absurd (h (eqb-true a b e))
  by false e = refl

-- ---- how often a number stands in a list

abbrev pub times : ℕ → List ℕ → ℕ
times n [] = 0
times n (p ∷ ps) = cond (eqb p n) 1 0 + times n ps

abbrev pub places_told : List Told → List ℕ
places_told [] = []
places_told (t ∷ ts) = t.place ∷ places_told ts

abbrev pub places_of : List Placed → List ℕ
places_of [] = []
places_of (r ∷ rs) = r.place ∷ places_of rs

abbrev pub places_in : List Chunk → List ℕ
places_in [] = []
places_in (c ∷ cs) = places_of c.rows ++ places_in cs

-- ---- results at their places

-- the last result at a place
abbrev slot : ℕ → List Told → Option RecordOutcome → Option RecordOutcome
slot k [] o = o
slot k (t ∷ ts) o = slot k ts (cond (eqb t.place k) (Some t.outcome) o)

abbrev slots : ℕ → List Told → List (Option RecordOutcome) → List (Option RecordOutcome)
slots k ts [] = []
slots k ts (o ∷ os) = slot k ts o ∷ slots (suc k) ts os

slots_nil : (k : ℕ) (os : List (Option RecordOutcome)) → slots k [] os ≡ os
slots_nil k [] = refl
slots_nil k (o ∷ os) = ap (λ xs. o ∷ xs) (slots_nil (suc k) os)

slot_other : (k : ℕ) (t : Told) (ts : List Told) (o : Option RecordOutcome) → t.place ≢ k → slot k ts o ≡ slot k (t ∷ ts) o
slot_other k t ts o h = ap (λ b. slot k ts (cond b (Some t.outcome) o)) (sym (eqb_false t.place k h))

slots_past : (k : ℕ) (t : Told) (ts : List Told) (os : List (Option RecordOutcome)) → t.place < k → slots k ts os ≡ slots k (t ∷ ts) os
slots_past k t ts [] h = refl
slots_past k t ts (o ∷ os) h =
    ap (λ x. x ∷ slots (suc k) ts os) (slot_other k t ts o (λ e. omega arith)) ∙ ap (λ xs. slot k (t ∷ ts) o ∷ xs) (slots_past (suc k) t ts os (omega arith))

slots_set : (k p : ℕ) (t : Told) (ts : List Told) (os : List (Option RecordOutcome)) → t.place ≡ k + p → slots k ts (slice_set os p (Some t.outcome)) ≡ slots k (t ∷ ts) os
slots_set k p t ts [] e = refl
slots_set k zero t ts (o ∷ os) e =
    ap (λ b. slot k ts (cond b (Some t.outcome) o) ∷ slots (suc k) ts os) (sym (eq-eqb t.place k (omega arith)))
    ∙ ap (λ xs. slot k (t ∷ ts) o ∷ xs) (slots_past (suc k) t ts os (omega arith))
slots_set k (suc p) t ts (o ∷ os) e =
    ap (λ x. x ∷ slots (suc k) ts (slice_set os p (Some t.outcome))) (slot_other k t ts o (λ f. omega arith))
    ∙ ap (λ xs. slot k (t ∷ ts) o ∷ xs) (slots_set (suc k) p t ts os (omega arith))

noted_slots : (ts : List Told) (os : List (Option RecordOutcome)) → noted ts os ≡ slots 0 ts os
noted_slots [] os = sym (slots_nil 0 os)
noted_slots (t ∷ ts) os = noted_slots ts (slice_set os t.place (Some t.outcome)) ∙ slots_set 0 t.place t ts os (omega arith)

-- ---- in order

abbrev one : Option RecordOutcome → List RecordOutcome
one None = []
one (Some o) = o ∷ []

-- nothing is told at a place
untold : (k : ℕ) (ts : List Told) (o : Option RecordOutcome) → times k (places_told ts) ≡ 0 → (at_place k ts ≡ []) × (slot k ts o ≡ o)
untold k [] o e = (refl, refl)
untold k (t ∷ ts) o e = by (eqb t.place k) (λ f. untold k ts o f) e where
  by : (b : Bool) → (times k (places_told ts) ≡ 0 → (at_place k ts ≡ []) × (slot k ts o ≡ o)) → cond b 1 0 + times k (places_told ts) ≡ 0 →
      (map (λ (u : Told). u.outcome) (cond b (t ∷ filter (λ (u : Told). eqb u.place k) ts) (filter (λ (u : Told). eqb u.place k) ts)) ≡ []) × (slot k ts (cond b (Some t.outcome) o) ≡ o)
  by true rec f = absurd (omega arith)
  by false rec f = rec (omega arith)

-- once at the most
told_once : (k : ℕ) (ts : List Told) → times k (places_told ts) ≤ 1 → at_place k ts ≡ one (slot k ts None)
told_once k [] h = refl
told_once k (t ∷ ts) h = by (eqb t.place k) (λ f. told_once k ts f) h where
  by : (b : Bool) → (times k (places_told ts) ≤ 1 → at_place k ts ≡ one (slot k ts None)) → cond b 1 0 + times k (places_told ts) ≤ 1 →
      map (λ (u : Told). u.outcome) (cond b (t ∷ filter (λ (u : Told). eqb u.place k) ts) (filter (λ (u : Told). eqb u.place k) ts)) ≡ one (slot k ts (cond b (Some t.outcome) None))
  by true rec f = let u = untold k ts (Some t.outcome) (omega arith) in ap (λ xs. t.outcome ∷ xs) u.0 ∙ ap one (sym u.1)
  by false rec f = rec (omega arith)

known_one : (o : Option RecordOutcome) (os : List (Option RecordOutcome)) → known (o ∷ os) ≡ one o ++ known os
known_one None os = refl
known_one (Some o) os = refl

slots_in_order : (k : ℕ) (rows : List SaveRow) (ts : List Told) → ((n : ℕ) → times n (places_told ts) ≤ 1) → known (slots k ts (none_yet rows)) ≡ in_order k rows ts
slots_in_order k [] ts h = refl
slots_in_order k (r ∷ rows) ts h =
    known_one (slot k ts None) (slots (suc k) ts (none_yet rows))
    ∙ ap (λ xs. xs ++ known (slots (suc k) ts (none_yet rows))) (sym (told_once k ts (h k)))
    ∙ ap (λ xs. at_place k ts ++ xs) (slots_in_order (suc k) rows ts h)

pub noted_in_order : (rows : List SaveRow) (ts : List Told) → ((n : ℕ) → times n (places_told ts) ≤ 1) → known (noted ts (none_yet rows)) ≡ in_order 0 rows ts
noted_in_order rows ts h = ap known (noted_slots ts (none_yet rows)) ∙ slots_in_order 0 rows ts h

-- ---- each place is told once

pub times_append : (n : ℕ) (xs ys : List ℕ) → times n (xs ++ ys) ≡ times n xs + times n ys
times_append n [] ys = omega arith
times_append n (x ∷ xs) ys = let e = times_append n xs ys in omega arith

pub told_append : (ts us : List Told) → places_told (ts ++ us) ≡ places_told ts ++ places_told us
told_append [] us = refl
told_append (t ∷ ts) us = ap (λ ps. t.place ∷ ps) (told_append ts us)

places_append : (rs qs : List Placed) → places_of (rs ++ qs) ≡ places_of rs ++ places_of qs
places_append [] qs = refl
places_append (r ∷ rs) qs = ap (λ ps. r.place ∷ ps) (places_append rs qs)

in_append : (cs ds : List Chunk) (n : ℕ) → times n (places_in (cs ++ ds)) ≡ times n (places_in cs) + times n (places_in ds)
in_append [] ds n = omega arith
in_append (c ∷ cs) ds n = let e = in_append cs ds n in let f = times_append n (places_of c.rows) (places_in (cs ++ ds)) in let g = times_append n (places_of c.rows) (places_in cs) in omega arith

pub told_le : (rs : List Placed) (ds : List Record) (n : ℕ) → times n (places_told (told rs ds)) ≤ times n (places_of rs)
told_le [] ds n = omega arith
told_le (r ∷ rs) [] n = omega arith
told_le (r ∷ rs) (d ∷ ds) n = let h = told_le rs ds n in omega arith

-- what failed and what is left over were all
pub parted_le : (rs : List Placed) (ds : List Record) (n : ℕ) → times n (places_told (failed_in (told rs ds))) + times n (places_of (left_over rs (told rs ds))) ≤ times n (places_of rs)
parted_le [] ds n = omega arith
parted_le (r ∷ rs) [] n = omega arith
parted_le (r ∷ rs) (Going p ∷ ds) n = let h = parted_le rs ds n in omega arith
parted_le (r ∷ rs) (Wrong e ∷ ds) n = let h = parted_le rs ds n in omega arith

pub given_up_places : (ts : List Told) → places_told (given_up ts) ≡ places_told ts
given_up_places [] = refl
given_up_places (t ∷ ts) = ap (λ ps. t.place ∷ ps) (given_up_places ts)

-- ---- the chunks of a list have each of its places once

cut_le : (k : ℕ) (act : Act) (rs : List Placed) (n : ℕ) → times n (places_in (cut k act rs)) ≤ times n (places_of rs)
cut_le zero act rs n = omega arith
cut_le (suc k) act [] n = omega arith
cut_le (suc k) act (r ∷ rs) n =
    let h = cut_le k act (drop chunk_most (r ∷ rs)) n in
    let e = times_append n (places_of (take chunk_most (r ∷ rs))) (places_in (cut k act (drop chunk_most (r ∷ rs)))) in
    let f = times_append n (places_of (take chunk_most (r ∷ rs))) (places_of (drop chunk_most (r ∷ rs))) in
    let g : times n (places_of (take chunk_most (r ∷ rs)) ++ places_of (drop chunk_most (r ∷ rs))) ≡ times n (places_of (r ∷ rs)) =
    ap (times n) (sym (places_append (take chunk_most (r ∷ rs)) (drop chunk_most (r ∷ rs)))) ∙ ap (λ xs. times n (places_of xs)) (take-append-drop chunk_most (r ∷ rs)) in
    omega arith

split_le : (rs : List Placed) (n : ℕ) →
    times n (places_of (filter (λ (r : Placed). cond (has_id r.row.id) false true) rs)) + times n (places_of (filter (λ (r : Placed). has_id r.row.id) rs)) ≤ times n (places_of rs)
split_le [] n = omega arith
split_le (r ∷ rs) n = by (has_id r.row.id) (split_le rs n) where
  no_ids : List Placed
  no_ids = filter (λ (q : Placed). cond (has_id q.row.id) false true) rs

  ids : List Placed
  ids = filter (λ (q : Placed). has_id q.row.id) rs

  by : (b : Bool) → times n (places_of no_ids) + times n (places_of ids) ≤ times n (places_of rs) →
      times n (places_of (cond (cond b false true) (r ∷ no_ids) no_ids)) + times n (places_of (cond b (r ∷ ids) ids)) ≤ cond (eqb r.place n) 1 0 + times n (places_of rs)
  by true h = omega arith
  by false h = omega arith

pub chunks_le : (op : Op) (rs : List Placed) (n : ℕ) → times n (places_in (chunks op rs)) ≤ times n (places_of rs)
chunks_le Op'.Insert rs n = cut_le (length rs) Inserting rs n
chunks_le Op'.Update rs n = cut_le (length rs) Updating rs n
chunks_le Op'.Delete rs n = cut_le (length rs) Deleting rs n
chunks_le Op'.Upsert rs n =
    let no_ids : List Placed = filter (λ (r : Placed). cond (has_id r.row.id) false true) rs in
    let ids : List Placed = filter (λ (r : Placed). has_id r.row.id) rs in
    let e = in_append (all_cut Inserting no_ids) (all_cut Updating ids) n in
    let f = cut_le (length no_ids) Inserting no_ids n in
    let g = cut_le (length ids) Updating ids n in
    let h = split_le rs n in
    omega arith

placed_past : (k : ℕ) (rows : List SaveRow) (n : ℕ) → n < k → times n (places_of (placed k rows)) ≡ 0
placed_past k [] n h = refl
placed_past k (r ∷ rows) n h =
    ap (λ b. cond b 1 0 + times n (places_of (placed (suc k) rows))) (eqb_false k n (λ e. omega arith)) ∙ (let f = placed_past (suc k) rows n (omega arith) in omega arith)

pub placed_once : (k : ℕ) (rows : List SaveRow) (n : ℕ) → times n (places_of (placed k rows)) ≤ 1
placed_once k [] n = omega arith
placed_once k (r ∷ rows) n = by (eqb k n) refl (placed_once (suc k) rows n) where
  by : (b : Bool) → eqb k n ≡ b → times n (places_of (placed (suc k) rows)) ≤ 1 → cond b 1 0 + times n (places_of (placed (suc k) rows)) ≤ 1
  by true e h = let f = placed_past (suc k) rows n (let g = eqb-true k n e in omega arith) in omega arith
  by false e h = omega arith
