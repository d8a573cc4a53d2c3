use Rattle.std.proofs.Common.{rules, ◌∙◌}
use Rattle.text_methods.proofs.Halves.{first_half, half_fits, half_cut}
use Rattle.text_methods.proofs.places.walk_up_to.Goals as goal

pub overflow_sub-text : goal.overflow_sub-text
overflow_sub-text c = half_fits c.args.n c.args.text.now c.walk_behind-rest.result.now (search rules) c.walk_behind-rest.ensures.bytes

pub split_at-requires : goal.split_at-requires
split_at-requires c = half_cut c.args.n c.args.text.now c.walk_behind-rest.result.now (search rules) (search rules) c.walk_behind-rest.ensures.bytes

pub returns : goal.returns
returns c = c.split_at.ensures.front ∙ first_half c.args.n c.args.text.now c.walk_behind-rest.result.now (search rules) c.walk_behind-rest.ensures.bytes
