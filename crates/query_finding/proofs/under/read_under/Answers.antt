use Rattle.std.proofs.Common.{sym, ◌∙◌}
use Rattle.std.proofs.lemmas.Bool.{false≢true}
use Rattle.query_finding.specs.Steps.{site_of}
use Rattle.query_finding.proofs.Below.{some_above}
use Rattle.query_finding.proofs.under.read_under.Goals as goal

pub returns : goal.returns
returns c =
    some_above (site_of c.args.schema.now c.args.ticket) c.args.overlay.now c.args.mode c.args.binds.now c.args.sub.now c.args.ids.now c.args.answers.now c.gather.result c.gather.new.answers
    (λ none. false≢true (sym c.if-is_empty.false ∙ c.is_empty.ensures.1 none)) c.gather.ensures
