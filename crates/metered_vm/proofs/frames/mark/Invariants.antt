use Rattle.std.proofs.Common.{◌≡◌, ◌≤◌, length, reverse, take}
use Rattle.stack_code.specs.Calls.{marked}
use Rattle.metered_vm.proofs.frames.mark.Given as goal

abbrev pub invariant-classes : goal.invariant-classes
invariant-classes l =
    (l.left ≤ length l.classes) × (marked l.image (reverse (take l.left l.classes)) l.statics ≡ marked l.image (reverse l.classes) l.fn.statics)

abbrev pub decreases-classes : goal.decreases-classes
decreases-classes l = l.left
