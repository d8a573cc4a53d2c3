use Rattle.std.proofs.Common.{◌≡◌, ◌≤◌, length, reverse, take}
use Rattle.stack_code.specs.Calls.{enter_fields}
use Rattle.metered_vm.specs.Callers.{here_of}
use Rattle.metered_vm.proofs.frames.enter_fields.Given as goal

abbrev pub invariant-fields : goal.invariant-fields
invariant-fields l =
    (l.left ≤ length l.classes) × (enter_fields l.image (reverse (take l.left l.classes)) l.this (here_of l.caller) l.c ≡ enter_fields l.image (reverse l.classes) l.this (here_of l.caller) l.fn.c)

abbrev pub decreases-fields : goal.decreases-fields
decreases-fields l = l.left
