use Rattle.std.proofs.Common.{◌≡◌, drop}
use Rattle.stack_code.specs.Calls.{row_of}
use Rattle.metered_vm.proofs.classes.row_of.Given as goal

abbrev pub invariant-rows : goal.invariant-rows
invariant-rows l = row_of l.class (drop l.row-index l.rows) ≡ row_of l.class l.rows
