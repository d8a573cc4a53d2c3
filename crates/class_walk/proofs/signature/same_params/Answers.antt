use Rattle.std.proofs.Common.{rules, ◌≢◌, length, sym}
use Rattle.class_walk.proofs.ParamSteps.{other_length}
use Rattle.class_walk.proofs.signature.same_params.Goals as goal

pub returns-then-ones-others : goal.returns-then-ones-others
returns-then-ones-others c =
    let n : length c.args.ones.now ≢ length c.args.others.now = search rules in
    sym (other_length c.args.ones.now c.args.others.now n)
