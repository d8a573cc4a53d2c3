use Rattle.std.proofs.Common.{◌≡◌, ◌++◌, drop}
use Rattle.reply_text.specs.Lines.{debug_text}
use Rattle.reply_text.proofs.lines.put_debug.Given as goal

abbrev pub invariant-loop-line : goal.invariant-loop-line
invariant-loop-line l = l.out.items ++ debug_text (drop l.line-index l.lines) ≡ l.fn.out.items ++ debug_text l.lines
