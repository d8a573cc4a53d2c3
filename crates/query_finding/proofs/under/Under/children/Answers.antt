use Rattle.std.proofs.Common.{sym}
use Rattle.query_finding.proofs.Below.{children_are}
use Rattle.query_finding.proofs.under.Under.children.Goals as goal

pub returns : goal.returns
returns c =
    children_are c.children_under.result c.args.schema.now c.args.binds.now c.args.row.now c.self.inside.sub.now c.self.inside.families c.self.inside.known c.new-reader.result c.args.self.now c.new-reader.ensures c.self.invariant
    (sym c.self.view_is) c.children_under.ensures
