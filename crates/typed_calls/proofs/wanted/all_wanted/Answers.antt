use Rattle.std.proofs.Common.{rules, ◌≡◌, ◌<◌, ◌+◌, ◌++◌, ◌∷◌, [], map, take, length, slice_get}
use Rattle.typed_calls.specs.Wants.{wanted, wanted_at}
use Rattle.typed_calls.proofs.WantSteps.{one_due_more}
use Rattle.builtin_signatures.specs.Dues.{each}
use Rattle.typed_calls.proofs.wanted.all_wanted.Goals as goal

pub loop-i-preserved : goal.loop-i-preserved
loop-i-preserved c =
    let within : c.loop-i.i < length (each c.args.dues) = search rules in
    let more : map (wanted c.args.receiver.now) (take c.loop-i.i (each c.args.dues)) ++ wanted_at c.args.receiver.now (slice_get (each c.args.dues) c.loop-i.i) ∷ [] ≡ map (wanted c.args.receiver.now) (take (c.loop-i.i + 1) (each c.args.dues)) =
    one_due_more c.args.receiver.now (each c.args.dues) c.loop-i.i within in
    search rules
