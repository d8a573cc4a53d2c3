use Rattle.std.proofs.Common.{◌≡◌, ◌++◌, drop}
use Rattle.schema_plans.specs.Plans.{all_words, object_words}
use Rattle.schema_build.proofs.lookup.object_words.Given as goal

abbrev pub invariant-loop-field : goal.invariant-loop-field
invariant-loop-field l = l.words.list.items ++ all_words (drop l.field-index l.object.fields) ≡ object_words l.object
