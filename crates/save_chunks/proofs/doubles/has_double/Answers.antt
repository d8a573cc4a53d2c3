use Rattle.std.proofs.Common.{sym, ap, ◌∙◌}
use Rattle.std.specs.Prelude.{eqb}
use Rattle.indexmap.specs.IndexSet.{contains}
use Rattle.apex_requests.specs.declared.request.SaveRow.{SaveRow}
use Rattle.save_chunks.proofs.Twice.{double_found}
use Rattle.save_chunks.proofs.doubles.has_double.Goals as goal

pub returns-then-contains : goal.returns-then-contains
returns-then-contains c =
    double_found c.back.i c.args.rows.now c.index-rows-i.result c.back-test.true c.back.invariant.0 c.index-rows-i.is
    (sym (c.back.invariant.1 c.index-rows-i.result.key) ∙ ap (λ (r : SaveRow). contains eqb c.back.keys r.key) c.index-rows-i.is ∙ sym c.contains.ensures ∙ c.if-contains.true)
