-- What is to be shown of inquiries.
use Rattle.std.specs.Prelude.{◌≡◌, List, ◌++◌}
use Rattle.apex_rows.specs.declared.query.Question.{Question}
use Rattle.apex_rows.specs.declared.query.Answer.{Answer}
use Rattle.apex_rows.specs.declared.row.Row.{Row}
use Rattle.save_meaning.specs.Results.{Gives}
use Rattle.save_meaning.specs.Transactions.{Keeps, IsKept}
use Rattle.store_inquiries.specs.Inquiries.{Inquiry, and_then, inquire, with_tape, on_tape, replayed, after, of_store, told}

-- for the states S of a request, what leaves it early E, and what is found, A and B
module _ (S E A B : Type 0) where
  -- a question takes the next answer of the tape and changes nothing else; where there is none left, it is what the run needs
  abbrev pub EachQuestionTakesAnAnswer : Type 0
  EachQuestionTakesAnAnswer =
      (keeps : Keeps S) → IsKept keeps → (i : Inquiry A) (tape : List Answer) (s : S) → inquire {E = E} keeps i (with_tape keeps tape s) ≡ on_tape keeps i tape s

  -- an inquiry that is begun again on the answers that it had, and on further ones, goes on with these where it stood
  abbrev pub InquiriesGoOn : Type 0
  InquiriesGoOn =
      (came : A → B) (wants : Question → B) (i : Inquiry A) (answers more : List Answer) → replayed came wants i (answers ++ more) ≡ replayed came wants (after i answers) more

  -- on the answers of a store, and whatever comes behind them, it finds what it finds there, and leaves what is behind
  abbrev pub StoresAnswer : Type 0
  StoresAnswer =
      (keeps : Keeps S) (rows : List Row) (i : Inquiry A) (more : List Answer) (s : S) → on_tape {E = E} keeps i (told rows i ++ more) s ≡ Gives (of_store rows i) (with_tape keeps more s)

  -- one inquiry behind another finds at a store what the second one finds for what the first one found
  abbrev pub OneBehindAnother : Type 0
  OneBehindAnother = (rows : List Row) (i : Inquiry A) (go : A → Inquiry B) → of_store rows (and_then i go) ≡ of_store rows (go (of_store rows i))
