use Rattle.std.proofs.Common.{◌+◌, ◌*◌, length, replicate, refl, None, ◌∙◌}
use Rattle.std.specs.Prelude.{slice_get}
use Rattle.request_states.specs.Expressions.{with_pairs, width}
use Rattle.txn_heap.specs.declared.thing.Thing.TheVariants as T
use Rattle.stack_code.specs.Things.{paired, record_next}
use Rattle.program_things.proofs.Called.{renamed}
use Rattle.program_things.proofs.Same.{make_alike, taken_is}
use Rattle.program_things.proofs.things.act_record.Goals as goal

pub returns : goal.returns
returns c =
    let rest = c.take_values.new.stack in let vs = c.in_ok-values.values.items in let ps = paired c.args.fields.now vs in
    renamed c.record_next.result _ _ c.record_next.new.c
    (taken_is (length c.args.fields.now) c.args.c.now.top.stack rest vs (λ ws stack. record_next (record { schema = c.args.schema.now; ticket = c.args.ticket }) c.args.object (paired c.args.fields.now ws) c.args.c.now stack) c.in_ok-values.ensures
    ∙ make_alike (32 + 32 * length ps) (T.Record (record { object = c.args.object; cells = with_pairs ps (replicate (width (slice_get c.args.schema.now.objects c.args.object)) None); selected = None })) c.args.c.now rest rest) c.record_next.ensures
