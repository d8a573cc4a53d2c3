use Rattle.std.proofs.Common.{◌≡◌, ◌++◌, []}
use Rattle.save_meaning.specs.Drafts.{with_ids, untouched}
use Rattle.query_rows.specs.Names.{named_over}
use Rattle.query_rows.proofs.named.wanted.Given as goal

abbrev pub invariant-loop-id : goal.invariant-loop-id
invariant-loop-id l = l.ids.items ++ untouched l.overlay l.id-iterator ≡ untouched l.overlay (with_ids (named_over l.reader l.path l.rows) [])
