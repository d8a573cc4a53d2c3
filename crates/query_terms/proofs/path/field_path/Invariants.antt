use Rattle.std.proofs.Common.{◌≡◌, drop}
use Rattle.query_terms.specs.Paths.{along, field_path}
use Rattle.query_terms.proofs.path.field_path.Given as goal

abbrev pub invariant-loop-word : goal.invariant-loop-word
invariant-loop-word l =
    along l.words.schema.now.objects l.at (drop l.word-index l.tree.names) l.place l.parents
    ≡ field_path l.words.schema.now.objects l.fn.object l.tree
