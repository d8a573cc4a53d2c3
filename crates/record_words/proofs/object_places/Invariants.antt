use Rattle.std.proofs.Common.{◌≡◌, take}
use Rattle.record_words.specs.Names.{object_names}
use Rattle.record_words.proofs.object_places.Given as goal

abbrev pub invariant-loop-object : goal.invariant-loop-object
invariant-loop-object l = l.names.items ≡ object_names (take l.object-index l.objects)
