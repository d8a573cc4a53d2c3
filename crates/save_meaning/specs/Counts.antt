-- COUNT() of the rows of an object, where sharing hides none and paths have one name (docs/platform.md, "Queries").
use Rattle.std.specs.Prelude.{◌≡◌, ℕ, false, List, [], ◌∷◌, min, length, filter}
use Rattle.apex_num.specs.declared.kind.LimitKind.TheVariants.{Queries, Rows}
use Rattle.apex_rows.specs.declared.query.Cond.{Cond}
use Rattle.apex_rows.specs.declared.query.Cond.TheVariants.{All}
use Rattle.apex_rows.specs.declared.query.Question.TheVariants.{Read}
use Rattle.apex_rows.specs.declared.row.Row.{Row}
use Rattle.row_meaning.specs.Conds.{holds_of, local_part}
use Rattle.row_meaning.specs.Overlays.{Overlay, Change, Now, Gone, touched_ids, merged}
use Rattle.row_meaning.specs.Stores.{has_id}
use Rattle.save_meaning.specs.Results.{Res, Gives, bind}
use Rattle.save_meaning.specs.Transactions.{Keeps, charge, ask}
use Rattle.save_meaning.specs.Inserts.{rows_of_answer}

-- the greatest number that is answered
abbrev pub count_most : ℕ
count_most = 2147483647

-- how many of the rows that the transaction sees meet a condition, where a store answered these
abbrev pub count_of : Overlay → ℕ → Cond → List Row → ℕ
count_of overlay object c answered = min (length (filter (holds_of c) (merged overlay object answered))) count_most

-- one query, one question, and one row, whatever the number is
abbrev pub count : {S E : Type 0} → Keeps S → ℕ → Cond → S → Res S E ℕ
count keeps object c s =
    bind (charge keeps Queries 1 s) (λ u s1.
    bind (ask keeps (Read object (All (local_part c))) s1) (λ a s2.
    bind (charge keeps Rows 1 s2) (λ v s3. Gives (count_of (keeps.txn s3).overlay object c (rows_of_answer a)) s3)))

-- ---- overlays as transactions make them

-- a row stands under its own Id
abbrev pub KeyIs : List ℕ → Change → Type 0
KeyIs id (Now row) = row.id ≡ id
KeyIs id Gone = Unit {0}

-- each Id stands once
abbrev pub IsKeyed : Overlay → Type 0
IsKeyed [] = Unit {0}
IsKeyed (e ∷ es) = KeyIs e.0 e.1 × (has_id (touched_ids es) e.0 ≡ false) × IsKeyed es
