use Rattle.std.proofs.Common.{◌≡◌, take, map}
use Rattle.schema_build.specs.Lookups.{words_in}
use Rattle.schema_plans.specs.Plans.{object_words}
use Rattle.schema_build.proofs.lookup.word_lists.Given as goal

abbrev pub invariant-loop-object : goal.invariant-loop-object
invariant-loop-object l = map words_in l.all.items ≡ map object_words (take l.object-index l.plan.objects)
