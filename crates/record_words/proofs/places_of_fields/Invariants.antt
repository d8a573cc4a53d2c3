use Rattle.std.proofs.Common.{◌≡◌, map, take}
use Rattle.record_words.specs.Names.{names_in, all_field_names}
use Rattle.record_words.proofs.places_of_fields.Given as goal

abbrev pub invariant-loop-object : goal.invariant-loop-object
invariant-loop-object l = map names_in l.all.items ≡ all_field_names (take l.object-index l.objects)
