-- What contracts see of the members that came before.
use Rattle.class_walk.specs.declared.twice.SeenMembers.{SeenMembers}
use Rattle.class_walk.specs.Duplicates.{Seen}

abbrev pub seen_of : SeenMembers → Seen
seen_of s = record { fields = s.fields.keys; methods = s.methods.keys; labels = s.labels.keys }
