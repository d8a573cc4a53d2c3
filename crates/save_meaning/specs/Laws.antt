-- What is to be shown of counts.
use Rattle.std.specs.Prelude.{◌≡◌, ◌&&◌, eqb, ℕ, List, min, length, filter}
use Rattle.save_meaning.specs.Transactions.{Txn, Keeps}
use Rattle.save_meaning.specs.Counts.{IsKeyed, count_of, count_most}
use Rattle.apex_rows.specs.declared.query.Cond.{Cond}
use Rattle.apex_rows.specs.declared.query.Cond.TheVariants.{All}
use Rattle.apex_rows.specs.declared.row.Row.{Row}
use Rattle.row_meaning.specs.Conds.{holds_of, local_part}
use Rattle.row_meaning.specs.Overlays.{Overlay, over}
use Rattle.row_meaning.specs.Stores.{answer}

-- a state that is nothing but what a save sees
abbrev pub alone : Keeps Txn
alone = record { txn = λ t. t; with_txn = λ t s. t }

-- what is counted over a store's answer is how many rows of the whole store, as the transaction sees it, meet the condition
abbrev pub CountsAreOfTheWholeStore : Type 0
CountsAreOfTheWholeStore =
    (overlay : Overlay) (store : List Row) (object : ℕ) (c : Cond) → IsKeyed overlay →
    count_of overlay object c (answer store object (All (local_part c))) ≡ min (length (filter (λ (r : Row). eqb r.object object && holds_of c r) (over store overlay))) count_most
