use Rattle.std.proofs.Common.{All, take}
use Rattle.stack_code.specs.Checked.{IsFineCode}
use Rattle.program_checks.proofs.check.check_codes.Given as goal

abbrev pub invariant-loop-code : goal.invariant-loop-code
invariant-loop-code l = All (IsFineCode l.begins) (take l.code-index l.codes)
