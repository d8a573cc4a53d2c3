use Rattle.std.proofs.Common.{◌≡◌, drop}
use Rattle.type_names.specs.TypeTrees.{known}
use Rattle.apex_types.specs.Units.{signatures_from}
use Rattle.apex_types.proofs.interface.signatures.Given as goal

abbrev pub invariant-loop-i : goal.invariant-loop-i
invariant-loop-i l =
    signatures_from (known l.names) l.flags l.i (drop l.i l.trees) l.so_far ≡ signatures_from (known l.names) l.flags 0 l.trees l.fn.so_far
