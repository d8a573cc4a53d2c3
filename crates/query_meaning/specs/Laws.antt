-- What is to be shown of queries.
use Rattle.std.specs.Prelude.{◌≡◌, true, List, [], ◌∷◌, ◌++◌}
use Rattle.apex_num.specs.declared.kind.LimitKind.TheVariants.{Queries}
use Rattle.platform_errors.specs.declared.thrown.Thrown.{Thrown}
use Rattle.limit_meter.specs.Charges.{Entry}
use Rattle.apex_schema.specs.declared.schema.Mode.{Mode}
use Rattle.apex_rows.specs.declared.query.Answer.{Answer}
use Rattle.apex_rows.specs.declared.query.Bind.{Bind}
use Rattle.apex_rows.specs.declared.query.Query.{Query}
use Rattle.apex_rows.specs.declared.query.Query.TheViews.{out-Query}
use Rattle.apex_rows.specs.declared.row.Found.{Found}
use Rattle.apex_rows.specs.declared.row.Row.{Row}
use Rattle.row_meaning.specs.Overlays.{Overlay, over}
use Rattle.row_meaning.specs.Queries.{plain}
use Rattle.row_meaning.specs.Stores.{IsStore}
use Rattle.save_meaning.specs.Counts.{IsKeyed}
use Rattle.save_meaning.specs.Results.{Needs, Closes, Res, Gives, Stops, bind, Holds}
use Rattle.save_meaning.specs.Sites.{Site}
use Rattle.save_meaning.specs.Transactions.{Keeps, IsKept, charge}
use Rattle.store_inquiries.specs.Inquiries.{of_store, told, with_tape}
use Rattle.store_inquiries.specs.Questions.{row_share}
use Rattle.query_meaning.specs.Queries.{Answered, all_numbers, rows_in, finding, holding, answer_of, charge_rows, query}

-- ---- where a store answers

-- the rows that a query means on a store as a transaction with these changes sees it
abbrev pub rows_meant : Site → Overlay → Mode → List Bind → List Row → Query → List Found
rows_meant site overlay mode binds store q = plain site.schema (row_share site.schema) (over store overlay) binds mode site.ticket.user q

-- by the store's answers a query finds the rows that it means on the whole store, as the transaction sees it
abbrev pub FindsWhatItMeans : Type 0
FindsWhatItMeans =
    (site : Site) (overlay : Overlay) (mode : Mode) (binds : List Bind) (store : List Row) (q : Query) → IsKeyed overlay → IsStore site.schema store →
    of_store store (finding site overlay mode binds q) ≡ rows_meant site overlay mode binds store q

-- ---- tapes

-- what is left of a tape
abbrev pub IsBehind : List Answer → List Answer → Type 0
IsBehind tape left = (used : List Answer) × (tape ≡ used ++ left)

-- at least the first of these was taken, if there is one
abbrev pub TakesOne : List Answer → List Answer → Type 0
TakesOne [] left = Unit {0}
TakesOne (a ∷ more) left = IsBehind more left

-- ---- runs, for the states S of a request

module _ (S : Type 0) where
  -- what a query does that has found these rows: its charges and its answer, with what is left of the tape behind its first
  -- questions, and behind all of them
  abbrev pub having_found : Keeps S → Site → Mode → List Bind → Query → List Found → List Answer → List Answer → S → Res S Thrown Answered
  having_found keeps site mode binds q found last more s =
      bind (charge keeps Queries 1 s) (λ u s1.
      bind (charge_rows keeps site mode binds (out-Query q).counted (rows_in found) (with_tape keeps last s1)) (λ v s2.
      Gives (answer_of (out-Query q).counted found) (with_tape keeps more s2)))

  -- on the tape on which a store answers its questions, one after the other, a query takes these answers, charges for the rows
  -- that it means, and answers them or their number
  abbrev pub AnswersWhatItMeans : Type 0
  AnswersWhatItMeans =
      (keeps : Keeps S) → IsKept keeps → (site : Site) (mode : Mode) (binds : List Bind) (store : List Row) (q : Query) (more : List Answer) (s : S) →
      IsKeyed (keeps.txn s).overlay → IsStore site.schema store → all_numbers binds q ≡ true →
      let found = rows_meant site (keeps.txn s).overlay mode binds store q in
      let last = told store (holding site.ticket (out-Query q).locked found) ++ more in
      (keeps.txn s).tape ≡ told store (finding site (keeps.txn s).overlay mode binds q) ++ last →
      query keeps site mode binds q s ≡ having_found keeps site mode binds q found last more s

  -- a state is another one with other charges, and other answers left
  abbrev pub OnlyCharged : Keeps S → S → S → Type 0
  OnlyCharged keeps s s1 = (charges : List Entry) × (tape : List Answer) × (s1 ≡ keeps.with_txn (record (keeps.txn s) { charges = charges; tape = tape }) s)

  -- however a query ends, it changed neither the overlay nor how many Ids were made, nor anything else but charges and the tape
  abbrev pub ChangesNothing : Type 0
  ChangesNothing =
      (keeps : Keeps S) → IsKept keeps → (site : Site) (mode : Mode) (binds : List Bind) (q : Query) (s : S) →
      Holds (λ a s1. OnlyCharged keeps s s1) (λ why s1. OnlyCharged keeps s s1) (query keeps site mode binds q s)

  -- ---- on a longer tape

  -- with these answers behind those that are left
  abbrev pub longer : Keeps S → List Answer → S → S
  longer keeps more s = with_tape keeps ((keeps.txn s).tape ++ more) s

  -- the answers that are left at the end
  abbrev pub left_at : {E A : Type 0} → Keeps S → Res S E A → List Answer
  left_at keeps (Gives a s) = (keeps.txn s).tape
  left_at keeps (Stops why s) = (keeps.txn s).tape

  -- a run, and one on a tape with more answers behind: the same with these left, where the first one came to an end; and where
  -- it needs an answer, no other one was left, and the longer one takes at least the next
  abbrev pub Continues : {E A : Type 0} → Keeps S → List Answer → Res S E A → Res S E A → Type 0
  Continues keeps more (Gives a s) on = on ≡ Gives a (longer keeps more s)
  Continues keeps more (Stops (Closes (Needs q)) s) on = ((keeps.txn s).tape ≡ []) × TakesOne more (left_at keeps on)
  Continues keeps more (Stops why s) on = on ≡ Stops why (longer keeps more s)

  -- so a query can be driven by running it again with one more answer
  abbrev pub TakesOneByOne : Type 0
  TakesOneByOne =
      (keeps : Keeps S) → IsKept keeps → (site : Site) (mode : Mode) (binds : List Bind) (q : Query) (more : List Answer) (s : S) →
      Continues keeps more (query keeps site mode binds q s) (query keeps site mode binds q (longer keeps more s))
