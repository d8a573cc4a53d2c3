use Rattle.std.proofs.Common.{◌≡◌, map, take}
use Rattle.record_words.specs.Names.{object_names}
use Rattle.seed_rows.specs.Views.{as_written}
use Rattle.seed_rows.specs.Written as spec
use Rattle.seed_rows.proofs.written.written.Given as goal

abbrev pub invariant-loop-entry : goal.invariant-loop-entry
invariant-loop-entry l = map as_written l.all.items ≡ spec.written (object_names l.places.schema.now.objects) (take l.entry-index l.entries)
