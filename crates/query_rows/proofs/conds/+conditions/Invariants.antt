use Rattle.std.proofs.Common.{◌≡◌, drop}
use Rattle.std.specs.List.{list_all, list_any}
use Rattle.apex_rows.specs.declared.query.Cond.{Cond}
use Rattle.row_meaning.specs.Conds.{holds}
use Rattle.query_rows.specs.Read.{value_of}
use Rattle.query_rows.proofs.conds.+conditions.Given as goal

abbrev pub invariant-all_hold-loop-cond : goal.invariant-all_hold-loop-cond
invariant-all_hold-loop-cond l = list_all (λ (c : Cond). holds l.binds (value_of l.reader l.row) c) (drop l.cond-index l.conds) ≡ list_all (λ (c : Cond). holds l.binds (value_of l.reader l.row) c) l.conds

abbrev pub invariant-one_holds-loop-cond : goal.invariant-one_holds-loop-cond
invariant-one_holds-loop-cond l = list_any (λ (c : Cond). holds l.binds (value_of l.reader l.row) c) (drop l.cond-index l.conds) ≡ list_any (λ (c : Cond). holds l.binds (value_of l.reader l.row) c) l.conds
