-- The two parts of an upsert.
use Rattle.std.specs.Prelude.{true, false, cond, List, filter}
use Rattle.save_statements.specs.declared.statement.Placed.{Placed}
use Rattle.save_statements.specs.Statements.{has_id}

-- the records without an Id are inserted
abbrev pub without_id : List Placed → List Placed
without_id rs = filter (λ (r : Placed). cond (has_id r.row.id) false true) rs

-- the others are updated
abbrev pub with_id : List Placed → List Placed
with_id rs = filter (λ (r : Placed). has_id r.row.id) rs
