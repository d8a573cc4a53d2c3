use Rattle.std.proofs.Common.{◌≡◌, ◌++◌, drop}
use Rattle.record_words.specs.Words.{words_from}
use Rattle.record_words.proofs.entries.all_words.Given as goal

abbrev pub invariant-loop-o : goal.invariant-loop-o
invariant-loop-o l = l.all.items ++ words_from l.o (drop l.o l.objects) ≡ words_from 0 l.objects
