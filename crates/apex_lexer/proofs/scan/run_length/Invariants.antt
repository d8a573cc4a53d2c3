use Rattle.std.proofs.Common.{◌≡◌, ◌+◌, drop}
use Rattle.apex_lexer.specs.Lexemes.{front}
use Rattle.apex_lexer.specs.Scans.{test_of}
use Rattle.apex_lexer.proofs.scan.run_length.Given as goal

abbrev pub invariant-loop-i : goal.invariant-loop-i
invariant-loop-i l = front (test_of l.run) (drop l.i l.text) + l.i ≡ front (test_of l.run) l.text
