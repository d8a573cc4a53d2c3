use Rattle.std.proofs.Common.{sym, ◌∙◌}
use Rattle.query_records.proofs.There.{there_made}
use Rattle.query_records.proofs.relations.+relations.Goals as goal

pub relation-returns : goal.relation-returns
relation-returns t c =
    there_made c.args.schema.now c.args.paths.now c.args.over.now c.args.object c.in-Some.object c.as_slice-given.result.now c.in_ok-parents.parents c.in_ok-put_over.field-0 c.args.heap.now c.relations.new.heap c.put_over.new.heap
    (sym c.object_there.ensures ∙ c.in-Some.is) c.as_slice-given.ensures c.in_ok-parents.ensures c.in_ok-put_over.ensures
