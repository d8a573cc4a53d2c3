-- What a statement saves (docs/language.md, "What code does").
use Rattle.std.specs.Prelude.{ℕ, true, List, [], ◌∷◌, map, slice_get, Option, None, Some}
use Rattle.apex_num.specs.declared.cell.Cell.{Cell}
use Rattle.apex_num.specs.declared.cell.Cell.TheVariants.{Id}
use Rattle.apex_requests.specs.declared.request.Op.{Op}
use Rattle.apex_requests.specs.declared.request.Op.TheVariants as Op
use Rattle.apex_requests.specs.declared.request.SaveRow.{SaveRow}
use Rattle.apex_syntax.specs.declared.stmt.DmlOp.{DmlOp}
use Rattle.apex_syntax.specs.declared.stmt.DmlOp.TheVariants as Dml
use Rattle.platform_errors.specs.declared.thrown.Thrown.TheVariants.{NullObject}
use Rattle.save_meaning.specs.Sites.{Site}
use Rattle.save_statements.specs.declared.pending.Manner.TheVariants.{ByCode}
use Rattle.save_statements.specs.declared.statement.RecordOutcome.{RecordOutcome}
use Rattle.save_statements.specs.declared.statement.RecordOutcome.TheVariants.{Done, Failed}
use Rattle.save_statements.specs.Phases.{Code}
use Rattle.save_statements.specs.Statements.{save}
use Rattle.txn_heap.specs.Changes.{changed, thing_after}
use Rattle.txn_heap.specs.declared.change.Change.TheVariants.{Know}
use Rattle.txn_heap.specs.declared.thing.Thing.{Thing}
use Rattle.txn_heap.specs.declared.thing.Thing.TheVariants as T
use Rattle.txn_heap.specs.declared.thing.Value.{Value}
use Rattle.txn_heap.specs.declared.thing.Value.TheVariants.{Plain, Object}
use Rattle.typed_program.specs.declared.stmt.Saved.{Saved}
use Rattle.typed_program.specs.declared.stmt.Saved.TheVariants.{One, Many}
use Rattle.save_meaning.specs.Results.{Gives, bind}
use Rattle.request_states.specs.States.{State, Res, saved, throws, keeps, with_heap}

abbrev pub Do : Type 0
Do = State → Res (Unit {0})

-- ---- the records that a statement saves: the object, and where they are in the heap; none where there is a null

abbrev pub with_place : ℕ → Option (List ℕ) → Option (List ℕ)
with_place p None = None
with_place p (Some ps) = Some (p ∷ ps)

abbrev pub places_of : List Value → Option (List ℕ)
places_of [] = Some []
places_of (Object r ∷ vs) = with_place r.place (places_of vs)
places_of (Plain c ∷ vs) = None

abbrev pub places_in : Option Thing → Option (List ℕ)
places_in (Some (T.List vs)) = places_of vs
places_in _ = None

abbrev pub of_object : ℕ → Option (List ℕ) → Option (ℕ × List ℕ)
of_object object None = None
of_object object (Some ps) = Some (object, ps)

abbrev pub records_of : Saved → Value → List Thing → Option (ℕ × List ℕ)
records_of (One object) (Object r) heap = Some (object, r.place ∷ [])
records_of (Many object) (Object r) heap = of_object object (places_in (slice_get heap r.place))
records_of _ _ heap = None

-- what of a record is saved: what it knows
abbrev pub id_in : List (Option Cell) → Option (List ℕ)
id_in (Some (Id i) ∷ cells) = Some i
id_in _ = None

abbrev pub row_in : ℕ → Option Thing → SaveRow
row_in place (Some (T.Record r)) = record { key = place; id = id_in r.cells; cells = r.cells }
row_in place _ = record { key = place; id = None; cells = [] }

abbrev pub rows_in : List Thing → List ℕ → List SaveRow
rows_in heap ps = map (λ p. row_in p (slice_get heap p)) ps

-- a record that is saved has its Id
abbrev pub name_record : ℕ → RecordOutcome → List Thing → List Thing
name_record p (Done id) heap = changed p (thing_after (Know 0 (Id id))) heap
name_record p (Failed e) heap = heap

abbrev pub name_records : List ℕ → List RecordOutcome → List Thing → List Thing
name_records [] outcomes heap = heap
name_records (p ∷ ps) [] heap = heap
name_records (p ∷ ps) (o ∷ os) heap = name_records ps os (name_record p o heap)

-- ---- what is saved

abbrev pub op_of : DmlOp → Op
op_of Dml.Insert = Op.Insert
op_of Dml.Update = Op.Update
op_of Dml.Delete = Op.Delete
op_of Dml.Upsert = Op.Upsert

module _ (site : Site) (code : Code State) where
  -- all of the records are saved or none, for code in its mode
  abbrev pub save_at : Op → ℕ → List ℕ → Do
  save_at op object ps st =
      bind (saved (save keeps site code op (ByCode st.here.mode) object true (rows_in st.world.heap ps) st)) (λ outcomes s.
      Gives tt (with_heap (name_records ps outcomes s.world.heap) s))

  -- a null list and a null record throw before anything is charged
  abbrev pub save_these : Op → Option (ℕ × List ℕ) → Do
  save_these op None st = throws NullObject st
  save_these op (Some r) st = save_at op r.0 r.1 st
