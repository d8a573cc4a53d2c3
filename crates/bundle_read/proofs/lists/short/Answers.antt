use Rattle.std.proofs.Common.{sym, ◌∙◌}
use Rattle.bundle_read.proofs.Items.{short_over, short_fine}
use Rattle.bundle_read.proofs.lists.short.Goals as goal

pub returns-then-is_over : goal.returns-then-is_over
returns-then-is_over c = short_over c.wrong.result c.args.most c.args.list.now (sym c.is_over.ensures ∙ c.if-is_over.true) c.wrong.ensures

pub returns : goal.returns
returns c = short_fine c.args.most c.args.list.now (sym c.is_over.ensures ∙ c.if-is_over.false)
