use Rattle.std.proofs.Common.{◌≡◌, ◌++◌, drop}
use Rattle.record_words.specs.Words.{fields_from}
use Rattle.record_words.proofs.entries.add_fields.Given as goal

abbrev pub invariant-loop-n : goal.invariant-loop-n
invariant-loop-n l = l.all.items ++ fields_from l.object l.n (drop l.n l.fields) ≡ l.fn.all.items ++ fields_from l.object 0 l.fields
