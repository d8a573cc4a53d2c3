use Rattle.std.proofs.Common.{sym}
use Rattle.std.proofs.lemmas.Result.{IfOk-weaker}
use Rattle.query_meaning.specs.Parents.{object_over}
use Rattle.query_finding.specs.Steps.{site_of}
use Rattle.query_finding.proofs.Over.{leads_nowhere, leads_there}
use Rattle.query_finding.proofs.parents.read_parent.Goals as goal

pub returns-in-Some : goal.returns-in-Some
returns-in-Some c =
    IfOk-weaker c.read_over.result _ _
    (λ comes h.
    leads_there (site_of c.args.schema.now c.args.ticket) c.args.overlay.now (object_over c.args.schema.now c.args.object c.args.path.now) c.in-Some.over c.args.path.now c.args.rows.now c.args.known.now c.read_over.new.known
    c.args.answers.now c.read_over.new.answers comes (sym c.in-Some.ensures) h) c.read_over.ensures

pub returns-in-None : goal.returns-in-None
returns-in-None c =
    leads_nowhere (site_of c.args.schema.now c.args.ticket) c.args.overlay.now (object_over c.args.schema.now c.args.object c.args.path.now) c.args.path.now c.args.rows.now c.args.known.now c.args.answers.now (sym c.in-None.ensures)
