-- Queries keep a request in order.
use Rattle.std.proofs.Common.{ℕ, Bool, true, false, List, length, pos, Option, None, Some, refl}
use Rattle.apex_num.specs.declared.cell.Cell.TheVariants as C
use Rattle.apex_num.specs.declared.kind.LimitKind.TheVariants.{Queries, Rows, Alloc}
use Rattle.apex_rows.specs.declared.query.Bind.{Bind}
use Rattle.apex_rows.specs.declared.query.Query.{Query}
use Rattle.apex_rows.specs.declared.query.Query.TheViews.{out-Query}
use Rattle.apex_rows.specs.declared.row.Found.{Found}
use Rattle.apex_rows.specs.declared.row.Row.{Row}
use Rattle.apex_schema.specs.declared.schema.Mode.{Mode}
use Rattle.platform_errors.specs.declared.thrown.Thrown.{Thrown}
use Rattle.platform_errors.specs.declared.thrown.Thrown.TheVariants.{InvalidLimit, NullObject}
use Rattle.query_meaning.specs.Queries as Q
use Rattle.query_meaning.specs.Queries.{Answered, Counted, Listed, all_numbers, answer_of, finding, holding, rows_in, units_of}
use Rattle.query_records.specs.Records.{records_made}
use Rattle.query_records.specs.declared.shape.FoundShape.{FoundShape}
use Rattle.query_records.specs.declared.shape.Queried.{Queried}
use Rattle.save_meaning.specs.Results.{Gives, bind}
use Rattle.save_meaning.specs.Sites.{Site}
use Rattle.save_meaning.specs.Transactions.{charge}
use Rattle.store_inquiries.specs.Inquiries.{inquire}
use Rattle.request_states.specs.States.{keeps, saved, thrown, with_heap}
use Rattle.txn_heap.specs.declared.thing.Value.{Value}
use Rattle.txn_heap.specs.declared.thing.Value.TheVariants.{Plain}
use Rattle.typed_program.specs.declared.program.Program.{Program}
use Rattle.apex_meaning.specs.Collections.{items_of}
use Rattle.apex_meaning.specs.Queries as E
use Rattle.apex_meaning.specs.Queries.{Bound, Has, Throws}
use Rattle.language_laws.proofs.Paid.{Paid, paid_gives, paid_leaves, paid_puts, paid_bind, freely, paid_charge, paid_leaving, paid_throws}
use Rattle.language_laws.proofs.Phases.{paid_inquire}
use Rattle.language_laws.proofs.Worlds.{later_kept}

module _ (program : Program) (n : ℕ) where
  -- what is looked at behind IN
  seen_items : (o : Option (List Value)) (v : Value) → Paid program n (E.seen_items o v)
  seen_items None v = paid_throws program n NullObject
  seen_items (Some vs) v = paid_gives program n (λ s. v)

  pub paid_seen : (v : Value) → Paid program n (E.seen v)
  paid_seen v = record { at = λ st h lt. (seen_items (items_of v st.world.heap) v).at st h lt }

module _ (program : Program) (site : Site) (n : ℕ) where
  module _ (mode : Mode) (binds : List Bind) where
    paid_rows : (counted : Bool) (rows : List Row) → Paid program n (Q.charge_rows keeps site mode binds counted rows)
    paid_rows true rows = paid_charge program n Rows 1 (freely program)
    paid_rows false rows =
        paid_bind program n (charge keeps Rows (length rows)) _ (paid_charge program n Rows (length rows) (freely program))
        (λ u. paid_charge program n Alloc (units_of site.schema rows) (freely program))

    -- the rows are found
    paid_found : (q : Query) (found : List Found) → Paid program {E = Thrown} n (λ s. bind (Q.charge_rows keeps site mode binds (out-Query q).counted (rows_in found) s) (λ v s3. bind (inquire keeps (holding site.ticket (out-Query q).locked found) s3) (λ w s4. Gives (answer_of (out-Query q).counted found) s4)))
    paid_found q found =
        paid_bind program n (Q.charge_rows keeps site mode binds (out-Query q).counted (rows_in found)) _ (paid_rows (out-Query q).counted (rows_in found))
        (λ v. paid_bind program n (inquire keeps (holding site.ticket (out-Query q).locked found)) _ (paid_inquire program n (holding site.ticket (out-Query q).locked found))
        (λ w. paid_gives program n (λ s. answer_of (out-Query q).counted found)))

    paid_query_if : (b : Bool) (q : Query) → Paid program n (Q.query_if keeps site mode binds b q)
    paid_query_if false q = paid_leaves program n (λ s. InvalidLimit)
    paid_query_if true q =
        paid_bind program n (charge keeps Queries 1) _ (paid_charge program n Queries 1 (λ ones. refl))
        (λ u. record {
          at = λ st h lt.
              (paid_bind program n (inquire keeps (finding site st.world.txn.overlay mode binds q)) _ (paid_inquire program n (finding site st.world.txn.overlay mode binds q)) (λ found. paid_found q found)).at st h lt;
        })

  paid_answered : (shape : FoundShape) (a : Answered) → Paid program n (E.answered site shape a)
  paid_answered shape (Counted m) = paid_gives program n (λ s. Plain (C.Whole (pos m)))
  paid_answered shape (Listed found) =
      paid_puts program n (λ s. (records_made site.schema shape found s.world.heap).0) (λ s. with_heap (records_made site.schema shape found s.world.heap).1 s) (λ s h. later_kept program s.world _ h refl refl refl)

  paid_queried : (q : Queried) (binds : List Bind) → Paid program n (E.queried_with site q binds)
  paid_queried q binds = record {
    at = λ st h lt.
        (paid_bind program n (λ s. saved (Q.query keeps site st.here.mode binds q.query s)) (E.answered site q.shape)
        (paid_leaving program n thrown _ (paid_query_if st.here.mode binds (all_numbers binds q.query) q.query)) (paid_answered q.shape)).at st h lt;
  }

  pub paid_on_bound : (q : Queried) (bound : Bound (List Bind)) → Paid program n (E.on_bound site q bound)
  paid_on_bound q (Has binds) = paid_queried q binds
  paid_on_bound q (Throws t) = paid_throws program n t
