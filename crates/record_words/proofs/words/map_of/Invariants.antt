use Rattle.std.proofs.Common.{◌≡◌, ◌≤◌, drop, length}
use Rattle.indexmap.specs.IndexMap.{get}
use Rattle.record_words.specs.declared.entries.RecordKey.{RecordKey}
use Rattle.record_words.specs.Words.{key_eq, word_in}
use Rattle.record_words.proofs.words.map_of.Given as goal

abbrev pub invariant-back : goal.invariant-back
invariant-back l = (l.i ≤ length l.entries) × ((k : RecordKey) → get key_eq l.map k ≡ word_in (drop l.i l.entries) k)

abbrev pub decreases-back : goal.decreases-back
decreases-back l = l.i
