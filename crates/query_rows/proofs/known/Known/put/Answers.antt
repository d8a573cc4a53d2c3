use Rattle.std.proofs.Common.{sym, ap, subst, ◌∙◌}
use Rattle.std.specs.Map.{values_of}
use Rattle.row_meaning.specs.Stores.{put}
use Rattle.query_rows.specs.Known.{AllFit}
use Rattle.query_rows.proofs.KnownRows.{fit_after, put_is}
use Rattle.query_rows.proofs.known.Known.put.Goals as goal

pub invariant_of-self : goal.invariant_of-self
invariant_of-self c = subst AllFit (sym c.in-Ok.ensures.entries) (fit_after c.args.row c.self.inside.rows.entries c.self.invariant)

pub returns-in-Ok-clause-ok : goal.returns-in-Ok-clause-ok
returns-in-Ok-clause-ok c = ap values_of c.in-Ok.ensures.entries ∙ put_is c.args.row c.self.inside.rows.entries c.self.invariant ∙ ap (put c.args.row) c.self.view_is
