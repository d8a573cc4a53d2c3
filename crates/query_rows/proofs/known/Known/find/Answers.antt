use Rattle.std.proofs.Common.{ap, ◌∙◌}
use Rattle.row_meaning.specs.Stores.{find}
use Rattle.query_rows.proofs.KnownRows.{find_is}
use Rattle.query_rows.proofs.known.Known.find.Goals as goal

pub returns : goal.returns
returns c = c.get.ensures.value ∙ find_is c.args.id.now c.self.inside.rows.entries c.self.invariant ∙ ap (λ rows. find rows c.args.id.now) c.self.view_is
