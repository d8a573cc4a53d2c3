use Rattle.std.proofs.Common.{sym, ◌∙◌}
use Rattle.std.proofs.lemmas.Bool.{false≢true}
use Rattle.query_meaning.specs.Queries.{is_hidden}
use Rattle.query_finding.specs.Steps.{site_of}
use Rattle.query_finding.proofs.Seeing.{open_to_all, some_hidden}
use Rattle.query_finding.proofs.sharing.shown.Goals as goal

pub returns-then-not-is_hidden : goal.returns-then-not-is_hidden
returns-then-not-is_hidden c =
    open_to_all (site_of c.args.schema.now c.args.ticket) c.args.overlay.now (is_hidden (site_of c.args.schema.now c.args.ticket) c.args.overlay.now c.args.mode c.args.object) c.args.rows c.args.answers.now
    (sym (c.is_hidden.ensures c.args.ticket c.args.overlay.now) ∙ c.if-not-is_hidden.true)

pub returns : goal.returns
returns c =
    some_hidden (site_of c.args.schema.now c.args.ticket) c.args.overlay.now (is_hidden (site_of c.args.schema.now c.args.ticket) c.args.overlay.now c.args.mode c.args.object) c.args.rows c.args.answers.now c.look_at.result
    c.look_at.new.answers (sym (c.is_hidden.ensures c.args.ticket c.args.overlay.now) ∙ c.if-not-is_hidden.false) (λ none. false≢true (sym c.if-is_empty.false ∙ c.is_empty.ensures.1 none)) c.look_at.ensures
