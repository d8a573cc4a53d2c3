-- A phase that finds out what references name, and then looks at its records.
use Rattle.std.proofs.Common.{◌≡◌, sym, subst, List}
use Rattle.std.specs.Prelude.{Result, Ok, Err, IfOk}
use Rattle.apex_rows.specs.declared.query.Question.{Question}
use Rattle.apex_rows.specs.declared.query.Answer.{Answer}
use Rattle.apex_rows.specs.declared.row.Row.{Row}
use Rattle.apex_requests.specs.declared.request.Ticket.{Ticket}
use Rattle.apex_schema.specs.declared.schema.Field.{Field}
use Rattle.row_meaning.specs.Overlays.{Overlay}
use Rattle.save_meaning.specs.declared.draft.Reference.{Reference}
use Rattle.save_meaning.specs.Drafts.{references}
use Rattle.save_statements.specs.declared.pending.Record.{Record}
use Rattle.save_statements.specs.Records.{going}
use Rattle.save_statements.specs.Checks.{find_all}
use Rattle.store_inquiries.specs.Inquiries.{Inquiry, Found, and_then}
use Rattle.answer_replay.specs.declared.answers.Comes.{Comes}
use Rattle.answer_replay.specs.declared.answers.Comes.TheVariants as C
use Rattle.answer_replay.specs.Playing.{Plays, PlaysInto, Replays}
use Rattle.answer_replay.proofs.Composing.{wants_first, found_last, replays}

module _ (overlay : Overlay) (judge : List (Reference × List Row) → List Record) (fields all : List Field) (records rs : List Record) (before after : List Answer) (comes : Comes (List (Reference × List Row))) where
  -- what was found out of the fields and the records that there are
  of_all : fields ≡ all → records ≡ rs → Plays (find_all overlay (references 0 fields) (going records)) before comes after → Plays (find_all overlay (references 0 all) (going rs)) before comes after
  of_all fs rr p = subst (λ xs. Plays (find_all overlay (references 0 all) (going xs)) before comes after) rr (subst (λ xs. Plays (find_all overlay (references 0 xs) (going records)) before comes after) fs p)

  pub came : (found : List (Reference × List Row)) (new : List Record) → fields ≡ all → records ≡ rs → Plays (find_all overlay (references 0 fields) (going records)) before comes after → comes ≡ C.Found found → new ≡ judge found →
      Plays (and_then (find_all overlay (references 0 all) (going rs)) (λ f. Found (judge f))) before (C.Found new) after
  came found new fs rr p e is =
      found_last (find_all overlay (references 0 all) (going rs)) judge before after found new (subst (λ x. Plays (find_all overlay (references 0 all) (going rs)) before x after) e (of_all fs rr p)) (sym is)

  pub asks : (q : Question) → fields ≡ all → records ≡ rs → Plays (find_all overlay (references 0 fields) (going records)) before comes after → comes ≡ C.Wants q →
      Plays (and_then (find_all overlay (references 0 all) (going rs)) (λ f. Found (judge f))) before (C.Wants q) after
  asks q fs rr p e =
      wants_first (find_all overlay (references 0 all) (going rs)) (λ f. Found (judge f)) before after q (subst (λ x. Plays (find_all overlay (references 0 all) (going rs)) before x after) e (of_all fs rr p))

-- one that was played on all its answers was made on them, whatever the ticket
pub replays_all : {E : Type 0} (r : Result (Comes (Unit {0})) E) (i : Ticket → Inquiry (List Record)) (left answers after : List Answer) (old new : List Record) → left ≡ answers →
    IfOk r (λ comes. (ticket : Ticket) → PlaysInto (i ticket) left comes old new after) → IfOk r (λ comes. (ticket : Ticket) → Replays (i ticket) answers comes old new)
replays_all (Ok comes) i left answers after old new e h = λ ticket. replays (i ticket) answers after comes old new (subst (λ l. PlaysInto (i ticket) l comes old new after) e (h ticket))
replays_all (Err error) i left answers after old new e h = tt
