-- Questions that saves and queries ask (docs/platform.md, "Questions").
use Rattle.std.specs.Prelude.{ℕ, ◌-◌, not, false, List, [], ◌∷◌, length, map, filter}
use Rattle.apex_num.specs.declared.cell.Cell.TheVariants.{Id}
use Rattle.apex_requests.specs.declared.request.Ticket.{Ticket}
use Rattle.apex_schema.specs.declared.schema.Schema.{Schema}
use Rattle.apex_rows.specs.declared.query.Term.TheVariants.{Given}
use Rattle.apex_rows.specs.declared.query.Terms.TheVariants.{Given as GivenAll}
use Rattle.apex_rows.specs.declared.query.Cond.{Cond}
use Rattle.apex_rows.specs.declared.query.Cond.TheVariants.{All, Compare, Within}
use Rattle.apex_rows.specs.declared.query.CondOp.TheVariants.{Equal}
use Rattle.apex_rows.specs.declared.query.Question.TheVariants.{Read, Grab}
use Rattle.apex_rows.specs.declared.row.Row.{Row}
use Rattle.record_ids.specs.Ids.{is_minted_by}
use Rattle.row_meaning.specs.Overlays.{Overlay, merged}
use Rattle.row_meaning.specs.Users.{user_id}
use Rattle.save_meaning.specs.Drafts.{with_ids}
use Rattle.save_meaning.specs.Inserts.{rows_of_answer}
use Rattle.store_inquiries.specs.Inquiries.{Inquiry, Found, Asked}

-- Ids as they stand in a question: rising, each once
abbrev pub rising : List (List ℕ) → List (List ℕ)
rising ids = with_ids ids []

-- a field is one of these Ids
abbrev pub within : ℕ → List (List ℕ) → Cond
within field ids = Within (record { parents = []; field = field }) false (GivenAll (map (λ (i : List ℕ). Given (Id i)) ids))

-- RowShare is the last object: its fields 2 and 3 are RowId and UserId
abbrev pub row_share : Schema → ℕ
row_share schema = length schema.objects - 1

-- what is shared with a user of these rows
abbrev pub shares_on : List (List ℕ) → ℕ → Cond
shares_on ids user = All (within 2 ids ∷ Compare (record { parents = []; field = 3 }) Equal (Given (Id (user_id user))) ∷ [])

-- the rows of an object that the transaction sees, where it is asked for those for which a condition holds: what the answer
-- has and the transaction didn't touch, and all of its own
abbrev pub rows_for : Overlay → ℕ → Cond → Inquiry (List Row)
rows_for overlay object c = Asked (Read object c) (λ a. Found (merged overlay object (rows_of_answer a)))

-- those under these Ids; where there is none, nothing is asked
abbrev pub rows_by : Overlay → ℕ → List (List ℕ) → Inquiry (List Row)
rows_by overlay object [] = Found (merged overlay object [])
rows_by overlay object (i ∷ is) = rows_for overlay object (within 0 (i ∷ is))

-- the Ids that a request didn't make
abbrev pub others : Ticket → List (List ℕ) → List (List ℕ)
others ticket ids = filter (λ (i : List ℕ). not (is_minted_by ticket.session ticket.index i)) ids

abbrev pub grab_all : List (List ℕ) → Inquiry (Unit {0})
grab_all [] = Found tt
grab_all (i ∷ is) = Asked (Grab (i ∷ is)) (λ a. Found tt)

-- rows are held for this transaction alone, those that it made apart
abbrev pub grab : Ticket → List (List ℕ) → Inquiry (Unit {0})
grab ticket ids = grab_all (others ticket ids)
