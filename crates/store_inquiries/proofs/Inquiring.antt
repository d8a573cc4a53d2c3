-- Inquiries on tapes and at stores.
use Rattle.std.proofs.Common.{◌≡◌, refl, ap, ◌∙◌, List, [], ◌∷◌, ◌++◌}
use Rattle.apex_rows.specs.declared.query.Question.{Question}
use Rattle.apex_rows.specs.declared.query.Answer.{Answer}
use Rattle.apex_rows.specs.declared.row.Row.{Row}
use Rattle.record_store.specs.Places.{answer_to}
use Rattle.save_meaning.specs.Results.{Gives, bind}
use Rattle.save_meaning.specs.Transactions.{Txn, Keeps, IsKept, answered}
use Rattle.store_inquiries.specs.Inquiries.{Inquiry, Found, Asked, and_then, inquire, with_tape, on_tape, replayed, after, of_store, told}

-- the tape that is put last counts
pub last_tape : {S : Type 0} (keeps : Keeps S) → IsKept keeps → (tape before : List Answer) (s : S) → with_tape keeps tape (with_tape keeps before s) ≡ with_tape keeps tape s
last_tape keeps kept tape before s =
    ap (λ (t : Txn). keeps.with_txn (record t { tape = tape }) (with_tape keeps before s)) (kept.same (record (keeps.txn s) { tape = before }) s)
    ∙ kept.twice (record (keeps.txn s) { tape = tape }) (record (keeps.txn s) { tape = before }) s

module _ {S E A : Type 0} (keeps : Keeps S) (kept : IsKept keeps) where
  pub each_takes : (i : Inquiry A) (tape : List Answer) (s : S) → inquire {E = E} keeps i (with_tape keeps tape s) ≡ on_tape keeps i tape s
  each_takes (Found a) tape s = refl
  each_takes (Asked q next) [] s =
      ap (λ (t : Txn). bind (answered keeps {E = E} q t.tape (with_tape keeps [] s)) (λ answer s1. inquire {E = E} keeps (next answer) s1)) (kept.same (record (keeps.txn s) { tape = [] }) s)
  each_takes (Asked q next) (a ∷ tape) s =
      ap (λ (t : Txn). bind (answered keeps {E = E} q t.tape (with_tape keeps (a ∷ tape) s)) (λ answer s1. inquire {E = E} keeps (next answer) s1)) (kept.same (record (keeps.txn s) { tape = a ∷ tape }) s)
      ∙ ap (λ s1. inquire {E = E} keeps (next a) s1) (last_tape keeps kept tape (a ∷ tape) s) ∙ each_takes (next a) tape s

pub goes_on : {A R : Type 0} (came : A → R) (wants : Question → R) (i : Inquiry A) (answers more : List Answer) →
    replayed came wants i (answers ++ more) ≡ replayed came wants (after i answers) more
goes_on came wants i [] more = refl
goes_on came wants (Found a) (x ∷ answers) more = refl
goes_on came wants (Asked q next) (x ∷ answers) more = goes_on came wants (next x) answers more

pub store_answers : {S E A : Type 0} (keeps : Keeps S) (rows : List Row) (i : Inquiry A) (more : List Answer) (s : S) →
    on_tape {E = E} keeps i (told rows i ++ more) s ≡ Gives (of_store rows i) (with_tape keeps more s)
store_answers keeps rows (Found a) more s = refl
store_answers keeps rows (Asked q next) more s = store_answers keeps rows (next (answer_to rows q)) more s

pub behind : {A B : Type 0} (rows : List Row) (i : Inquiry A) (go : A → Inquiry B) → of_store rows (and_then i go) ≡ of_store rows (go (of_store rows i))
behind rows (Found a) go = refl
behind rows (Asked q next) go = behind rows (next (answer_to rows q)) go
