-- The records of a phase are as many behind it as before.
use Rattle.std.proofs.Common.{◌≡◌, ℕ, suc, ◌≤◌, Bool, true, false, cond, List, [], ◌∷◌, ◌++◌, length, map, Option, refl, sym, ap, ◌∙◌, arith}
use Rattle.platform_errors.specs.declared.record.RecordError.{RecordError}
use Rattle.apex_schema.specs.declared.schema.Object.{Object}
use Rattle.apex_rows.specs.declared.query.Answer.{Answer}
use Rattle.apex_requests.specs.declared.request.SaveRow.{SaveRow}
use Rattle.row_meaning.specs.Overlays.{Overlay}
use Rattle.save_meaning.specs.Sites.{Site}
use Rattle.save_meaning.specs.Inserts.{ids_of, is_row_share}
use Rattle.save_meaning.specs.Drafts.{references, with_ids, untouched}
use Rattle.store_inquiries.specs.Inquiries.{Inquiry, Found, Asked, and_then}
use Rattle.store_inquiries.specs.Questions.{rows_by, grab}
use Rattle.save_statements.specs.declared.pending.Act.{Act}
use Rattle.save_statements.specs.declared.pending.Act.TheVariants.{Inserting, Updating, Deleting}
use Rattle.save_statements.specs.declared.pending.Manner.{Manner}
use Rattle.save_statements.specs.declared.pending.Pending.{Pending}
use Rattle.save_statements.specs.declared.pending.Record.{Record}
use Rattle.save_statements.specs.declared.pending.Record.TheVariants.{Going, Wrong}
use Rattle.save_statements.specs.declared.firing.Trigger.{Trigger}
use Rattle.save_statements.specs.declared.firing.Left.{Left}
use Rattle.save_statements.specs.declared.firing.Fired.{Fired}
use Rattle.save_statements.specs.declared.firing.Fired.TheVariants.{Ran, Threw}
use Rattle.save_statements.specs.declared.firing.Entry.{Entry}
use Rattle.save_statements.specs.declared.firing.Entry.TheVariants.{Inside, Outside}
use Rattle.save_statements.specs.declared.statement.Placed.{Placed}
use Rattle.save_statements.specs.declared.statement.Told.{Told}
use Rattle.save_statements.specs.declared.run.Replayed.TheVariants.{Came}
use Rattle.save_statements.specs.Records.{judged, changed_to, going, rows_of, masters, lookups}
use Rattle.save_statements.specs.Inquiries.{replayed}
use Rattle.save_statements.specs.Loading.{old_record, admitted_by, admitted, is_checked, next_records, given_ids, load_old, load, new_record}
use Rattle.save_statements.specs.Checks.{find_all, bad_reference, seen_now, refer_rows, refer, invalid, validate_rows, most_levels, levels, joined, naming_all, with_under, validate_delete, validate}
use Rattle.save_statements.specs.Firings.{entries, all_left, thrown_in, fired, back}
use Rattle.save_statements.specs.Statements.{is_failed, left_over, unplaced}

-- ---- lists of records

length_judged : (test : Pending → Option RecordError) (rs : List Record) → length (judged test rs) ≡ length rs
length_judged test [] = refl
length_judged test (Going p ∷ rs) = ap (λ n. suc n) (length_judged test rs)
length_judged test (Wrong e ∷ rs) = ap (λ n. suc n) (length_judged test rs)

length_changed : (f : Pending → Pending) (rs : List Record) → length (changed_to f rs) ≡ length rs
length_changed f [] = refl
length_changed f (Going p ∷ rs) = ap (λ n. suc n) (length_changed f rs)
length_changed f (Wrong e ∷ rs) = ap (λ n. suc n) (length_changed f rs)

length_next : (act : Act) (by : Manner) (o : Object) (rows : List SaveRow) (rs : List Record) → length (next_records act by o rows rs) ≡ length rs
length_next act by o [] rs = refl
length_next act by o (r ∷ rows) [] = refl
length_next act by o (r ∷ rows) (d ∷ rs) = ap (λ n. suc n) (length_next act by o rows rs)

length_mapped : {A B : Type 0} (f : A → B) (xs : List A) → length (map f xs) ≡ length xs
length_mapped f [] = refl
length_mapped f (x ∷ xs) = ap (λ n. suc n) (length_mapped f xs)

pub length_entries : (rs : List Record) → length (entries rs) ≡ length rs
length_entries [] = refl
length_entries (Going p ∷ rs) = ap (λ n. suc n) (length_entries rs)
length_entries (Wrong e ∷ rs) = ap (λ n. suc n) (length_entries rs)

pub length_back : (es : List Entry) → length (back es) ≡ length es
length_back [] = refl
length_back (Inside p error ∷ es) = ap (λ n. suc n) (length_back es)
length_back (Outside e ∷ es) = ap (λ n. suc n) (length_back es)

length_left : (ls : List Left) (es : List Entry) → length (all_left ls es) ≡ length es
length_left [] es = refl
length_left (l ∷ ls) [] = refl
length_left (l ∷ ls) (Inside p error ∷ es) = ap (λ n. suc n) (length_left ls es)
length_left (l ∷ ls) (Outside e ∷ es) = ap (λ n. suc n) (length_left (l ∷ ls) es)

length_thrown : (thrown : RecordError) (es : List Entry) → length (thrown_in thrown es) ≡ length es
length_thrown thrown [] = refl
length_thrown thrown (Inside p error ∷ es) = ap (λ n. suc n) (length_thrown thrown es)
length_thrown thrown (Outside e ∷ es) = ap (λ n. suc n) (length_thrown thrown es)

pub length_fired : (t : Trigger) (f : Fired) (es : List Entry) → length (fired t f es) ≡ length es
length_fired t (Ran left) es = length_left left es
length_fired t (Threw class message left) es = length_thrown _ (all_left left es) ∙ length_left left es

pub left_over_few : (rs : List Placed) (ts : List Told) → length (left_over rs ts) ≤ length rs
left_over_few [] ts = omega arith
left_over_few (r ∷ rs) [] = omega arith
left_over_few (r ∷ rs) (t ∷ ts) = by (is_failed t.outcome) (left_over_few rs ts) where
  by : (b : Bool) → length (left_over rs ts) ≤ length rs → length (cond b (left_over rs ts) (r ∷ left_over rs ts)) ≤ suc (length rs)
  by true h = omega arith
  by false h = omega arith

-- ---- what an inquiry may find

-- whatever is answered, what is found has so many records
abbrev Finds : ℕ → Inquiry (List Record) → Type 0
Finds n (Found rs) = length rs ≡ n
Finds n (Asked q next) = (a : Answer) → Finds n (next a)

finds_then : {A : Type 0} (n : ℕ) (i : Inquiry A) (go : A → Inquiry (List Record)) → ((a : A) → Finds n (go a)) → Finds n (and_then i go)
finds_then n (Found a) go h = h a
finds_then n (Asked q next) go h = λ a. finds_then n (next a) go h

-- where the first part finds so many
finds_both : (n m : ℕ) (i : Inquiry (List Record)) (go : List Record → Inquiry (List Record)) → Finds n i → ((rs : List Record) → length rs ≡ n → Finds m (go rs)) → Finds m (and_then i go)
finds_both n m (Found rs) go f h = h rs f
finds_both n m (Asked q next) go f h = λ a. finds_both n m (next a) go (f a) h

pub came_many : (n : ℕ) (i : Inquiry (List Record)) (answers : List Answer) (rs : List Record) → Finds n i → replayed i answers ≡ Came rs → length rs ≡ n
came_many n (Found found) answers rs f e = let s : found ≡ rs = cc in ap length (sym s) ∙ f
came_many n (Asked q next) [] rs f e = cc
came_many n (Asked q next) (a ∷ answers) rs f e = came_many n (next a) answers rs (f a) e

module _ (site : Site) (overlay : Overlay) where
  finds_admitted : (b : Bool) (ids : List (List ℕ)) (rs : List Record) → Finds (length rs) (admitted_by site overlay b ids rs)
  finds_admitted true [] rs = refl
  finds_admitted true (i ∷ is) rs = λ a. length_judged _ rs
  finds_admitted false [] rs = refl
  finds_admitted false (i ∷ is) rs = refl

  finds_old : (act : Act) (by : Manner) (object : ℕ) (o : Object) (rows : List SaveRow) → Finds (length rows) (load_old site overlay act by object o rows)
  finds_old act by object o rows =
      finds_then (length rows) (rows_by overlay object (untouched overlay (with_ids (given_ids rows) []))) _ (λ found.
      finds_both (length (map (λ (r : SaveRow). old_record found r.id) rows)) (length rows) (admitted site overlay by o (map (λ (r : SaveRow). old_record found r.id) rows)) _
      (finds_admitted (is_checked by o) (with_ids (ids_of (rows_of (going (map (λ (r : SaveRow). old_record found r.id) rows)))) []) (map (λ (r : SaveRow). old_record found r.id) rows))
      (λ rs e. finds_then (length rows) (grab site.ticket (ids_of (rows_of (going rs)))) _ (λ u. length_next act by o rows rs ∙ e ∙ length_mapped (λ (r : SaveRow). old_record found r.id) rows)))

  pub finds_load : (act : Act) (by : Manner) (object : ℕ) (o : Object) (rows : List SaveRow) → Finds (length rows) (load site overlay act by object o rows)
  finds_load Inserting by object o rows = length_mapped (λ (r : SaveRow). new_record site.ticket.user object o r r.id) rows
  finds_load Updating by object o rows = finds_old Updating by object o rows
  finds_load Deleting by object o rows = finds_old Deleting by object o rows

  finds_refer_rows : (o : Object) (rs : List Record) → Finds (length rs) (refer_rows site overlay o rs)
  finds_refer_rows o rs =
      finds_then (length rs) (find_all overlay (references 0 o.fields) (going rs)) _
      (λ found. length_changed seen_now (judged (bad_reference (length site.schema.users) o found) rs) ∙ length_judged (bad_reference (length site.schema.users) o found) rs)

  pub finds_refer : (act : Act) (o : Object) (rs : List Record) → Finds (length rs) (refer site overlay act o rs)
  finds_refer Inserting o rs = finds_refer_rows o rs
  finds_refer Updating o rs = finds_refer_rows o rs
  finds_refer Deleting o rs = refl

  finds_validate_rows : (object : ℕ) (o : Object) (rs : List Record) → Finds (length rs) (validate_rows site overlay object o rs)
  finds_validate_rows object o rs =
      finds_then (length rs) (find_all overlay (references 0 o.fields) (going rs)) _ (λ found. length_judged (invalid (length site.schema.users) (is_row_share site.schema object) o found) rs)

  finds_validate_delete : (rs : List Record) → Finds (length rs) (validate_delete site overlay rs)
  finds_validate_delete rs =
      finds_then (length rs) (levels site overlay most_levels (rows_of (going rs))) _ (λ ls.
      finds_then (length rs) (naming_all overlay (lookups site.schema) (rows_of (going rs) ++ joined ls)) _ (λ found.
      length_judged _ (changed_to (with_under (masters site.schema) ls) rs) ∙ length_changed _ rs))

  pub finds_validate : (act : Act) (object : ℕ) (o : Object) (rs : List Record) → Finds (length rs) (validate site overlay act object o rs)
  finds_validate Inserting object o rs = finds_validate_rows object o rs
  finds_validate Updating object o rs = finds_validate_rows object o rs
  finds_validate Deleting object o rs = finds_validate_delete rs

pub length_unplaced : (rs : List Placed) → length (unplaced rs) ≡ length rs
length_unplaced rs = length_mapped (λ (r : Placed). r.row) rs
