-- Cells and counts by hand.
use Rattle.std.proofs.Common.{◌≡◌, refl, ℕ, true, false, List, [], ◌∷◌, codes, pos}
use Rattle.apex_num.specs.declared.kind.LimitKind.TheVariants.{Queries, Rows}
use Rattle.apex_num.specs.declared.cell.Cell.TheVariants.{Null, Bool as Truth, Num, Text, Id}
use Rattle.limit_meter.specs.Charges.{counter}
use Rattle.platform_errors.specs.declared.thrown.Thrown.{Thrown}
use Rattle.apex_rows.specs.declared.query.Answer.{Answer}
use Rattle.apex_rows.specs.declared.query.Answer.TheVariants.{Rows as RowsOf}
use Rattle.apex_rows.specs.declared.query.Cond.{Cond}
use Rattle.apex_rows.specs.declared.query.Cond.TheOpen.{Cond-F}
use Rattle.apex_rows.specs.declared.query.Cond.TheViews.{roll-Cond}
use Rattle.apex_rows.specs.declared.query.Cond.TheFolds.{fold-roll-Cond}
use Rattle.apex_rows.specs.declared.query.CondOp.TheVariants.{Equal}
use Rattle.apex_rows.specs.declared.query.Term.TheVariants.{Given}
use Rattle.apex_rows.specs.declared.row.Row.{Row}
use Rattle.row_meaning.specs.Overlays.{Now}
use Rattle.row_meaning.specs.Users.{user_id}
use Rattle.save_meaning.specs.Results.{Res, Gives, Stops}
use Rattle.save_meaning.specs.Transactions.{Txn}
use Rattle.save_meaning.specs.Drafts.{is_bad_level, kept_cell}
use Rattle.save_meaning.specs.Counts.{count}
use Rattle.save_meaning.specs.Laws.{alone}

-- the level of a RowShare is one of two
bad_level : is_bad_level (Text (codes "All")) ≡ true
bad_level = refl

good_level : is_bad_level (Text (codes "Read")) ≡ false
good_level = refl

-- an empty text is kept as null
empty_text : kept_cell (Text []) ≡ Null
empty_text = refl

-- ---- counts

abbrev a_row : List ℕ → Row
a_row id = record { object = 0; id = id; cells = Id id ∷ Id (user_id 0) ∷ Num (pos 5) ∷ Truth false ∷ [] }

abbrev of_size : Cond
of_size = roll-Cond (Cond-F.Compare (record { parents = []; field = 2 }) Equal (Given (Num (pos 5))))

abbrev with_own : List Answer → Txn
with_own tape = record { overlay = (codes "001000100000001", Now (a_row (codes "001000100000001"))) ∷ []; minted = 0; charges = []; tape = tape }

abbrev answered : Res Txn Thrown ℕ → List ℕ
answered (Gives n t) = n ∷ counter Queries t.charges ∷ counter Rows t.charges ∷ []
answered (Stops why t) = []

-- a row of the store and one of the overlay
two : answered (count alone 0 of_size (with_own (RowsOf (a_row (codes "001000000000001") ∷ []) ∷ []))) ≡ 2 ∷ 1 ∷ 1 ∷ []
two = simp (fold-roll-Cond) refl

-- the overlay's row takes the place of the store's
one_of_two : answered (count alone 0 of_size (with_own (RowsOf (a_row (codes "001000100000001") ∷ []) ∷ []))) ≡ 1 ∷ 1 ∷ 1 ∷ []
one_of_two = simp (fold-roll-Cond) refl

-- a row of another object
no_line : answered (count alone 1 of_size (with_own (RowsOf [] ∷ []))) ≡ 0 ∷ 1 ∷ 1 ∷ []
no_line = refl
