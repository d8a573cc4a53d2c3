use Rattle.std.proofs.Common.{◌≡◌, ◌++◌, drop, map}
use Rattle.apex_meaning.specs.Firings.{numbered}
use Rattle.compile_unit.specs.Ranks.{numbered_of}
use Rattle.compile_unit.proofs.firings.numbered.Given as goal

abbrev pub invariant-loop-number : goal.invariant-loop-number
invariant-loop-number l = map numbered_of l.all.items ++ numbered l.number (drop l.number l.triggers) ≡ numbered 0 l.triggers
