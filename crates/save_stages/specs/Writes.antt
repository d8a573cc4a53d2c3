-- The writes of one record (docs/platform.md, "Saves").
use Rattle.std.specs.Prelude.{ℕ, ◌+◌, List}
use Rattle.apex_num.specs.declared.kind.LimitKind.TheVariants.{Alloc}
use Rattle.apex_schema.specs.declared.schema.Object.{Object}
use Rattle.apex_requests.specs.declared.request.Ticket.{Ticket}
use Rattle.record_ids.specs.Ids.{minted_id}
use Rattle.save_meaning.specs.Drafts.{written}
use Rattle.save_meaning.specs.declared.run.TxnState.{TxnState}
use Rattle.save_statements.specs.declared.pending.Pending.{Pending}
use Rattle.save_statements.specs.declared.pending.Record.{Record}
use Rattle.save_statements.specs.declared.run.SaveRun.{SaveRun}
use Rattle.save_statements.specs.Moves.{Move, charged, put, is_written}
use Rattle.save_statements.specs.Phases.{row_units}

-- the Id of the next new row of an object
abbrev pub new_id : Ticket → Object → TxnState → List ℕ
new_id ticket o w = minted_id o.prefix ticket.session ticket.index (w.minted + 1)

-- the record as it stands when its row is written under an Id
abbrev pub under_id : List ℕ → Pending → Pending
under_id id p = record p { row = written id p.row }

-- a new row
abbrev pub inserted : Ticket → Object → Pending → List Record → List Record → SaveRun → TxnState → Move
inserted ticket o p before rs run w =
    charged Alloc (row_units o) w (λ v. is_written (under_id (new_id ticket o v) p) before rs run (put (new_id ticket o v) p.row (record v { minted = v.minted + 1 })))

-- a row that is there
abbrev pub updated : Object → Pending → List Record → List Record → SaveRun → TxnState → Move
updated o p before rs run w = charged Alloc (row_units o) w (λ v. is_written (under_id p.row.id p) before rs run (put p.row.id p.row v))
