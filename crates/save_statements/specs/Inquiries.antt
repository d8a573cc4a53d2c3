-- What is found out by questions of saves (docs/platform.md, "Saves").
use Rattle.std.specs.Prelude.{ℕ, List, [], ◌∷◌, filter}
use Rattle.apex_rows.specs.declared.query.Question.TheVariants.{Read}
use Rattle.apex_rows.specs.declared.query.Answer.{Answer}
use Rattle.apex_rows.specs.declared.row.Row.{Row}
use Rattle.row_meaning.specs.Overlays.{Overlay, merged}
use Rattle.save_meaning.specs.Inserts.{rows_of_answer}
use Rattle.store_inquiries.specs.Inquiries as Inquiries
use Rattle.store_inquiries.specs.Inquiries.{Inquiry, Found, Asked}
use Rattle.store_inquiries.specs.Questions.{within}
use Rattle.save_statements.specs.declared.pending.Naming.{Naming}
use Rattle.save_statements.specs.declared.pending.Record.{Record}
use Rattle.save_statements.specs.declared.run.Replayed.{Replayed}
use Rattle.save_statements.specs.declared.run.Replayed.TheVariants.{Came, Wants}
use Rattle.save_statements.specs.Records.{names_one}

-- what an inquiry for records comes to on the answers that it had so far
abbrev pub replayed : Inquiry (List Record) → List Answer → Replayed
replayed i answers = Inquiries.replayed Came Wants i answers

-- the rows that name one of these by a field, where the transaction has these changes; where there is none, nothing is asked
abbrev pub naming : Overlay → Naming → List (List ℕ) → Inquiry (List Row)
naming overlay n [] = Found []
naming overlay n (i ∷ is) =
    Asked (Read n.object (within n.field (i ∷ is))) (λ a. Found (filter (names_one n.field (i ∷ is)) (merged overlay n.object (rows_of_answer a))))
