use Rattle.std.proofs.Common.{◌+◌, ◌*◌}
use Rattle.apex_parse_leaf.proofs.types.+types.Given as goal

abbrev pub decreases-type_args : goal.decreases-type_args
decreases-type_args l = 4 * l.room

abbrev pub decreases-args_part : goal.decreases-args_part
decreases-args_part l = 4 * l.room + 1

abbrev pub decreases-type_tree : goal.decreases-type_tree
decreases-type_tree l = 4 * l.room + 2

abbrev pub decreases-second_arg : goal.decreases-second_arg
decreases-second_arg l = 4 * l.room + 3
