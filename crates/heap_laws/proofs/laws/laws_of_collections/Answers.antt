use Rattle.heap_laws.proofs.Steps.{only_its_thing, put_keeps, put_found, removal_keeps, added_where_new, sort_rises, sort_keeps}
use Rattle.heap_laws.proofs.Guarded.{guarded_stays, unguarded_done}
use Rattle.heap_laws.proofs.laws.laws_of_collections.Goals as goal

pub returns-clause-frame : goal.returns-clause-frame
returns-clause-frame c = only_its_thing

pub returns-clause-guarded : goal.returns-clause-guarded
returns-clause-guarded c = guarded_stays

pub returns-clause-unguarded : goal.returns-clause-unguarded
returns-clause-unguarded c = unguarded_done

pub returns-clause-put : goal.returns-clause-put
returns-clause-put c = put_keeps

pub returns-clause-found : goal.returns-clause-found
returns-clause-found c = put_found

pub returns-clause-removed : goal.returns-clause-removed
returns-clause-removed c = removal_keeps

pub returns-clause-added : goal.returns-clause-added
returns-clause-added c = added_where_new

pub returns-clause-sorted : goal.returns-clause-sorted
returns-clause-sorted c = sort_rises

pub returns-clause-same : goal.returns-clause-same
returns-clause-same c = sort_keeps
