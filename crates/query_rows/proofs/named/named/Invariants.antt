use Rattle.std.proofs.Common.{◌≡◌, [], drop}
use Rattle.apex_num.specs.declared.cell.Cell.TheVariants.{Null}
use Rattle.save_meaning.specs.Drafts.{with_ids}
use Rattle.query_rows.specs.Names.{named_over}
use Rattle.query_rows.proofs.named.named.Given as goal

abbrev pub invariant-loop-row : goal.invariant-loop-row
invariant-loop-row l = (l.null ≡ Null) × (with_ids (named_over l.reader l.path (drop l.row-index l.rows)) l.ids.keys ≡ with_ids (named_over l.reader l.path l.rows) [])
