use Rattle.std.proofs.Common.{◌∙◌}
use Rattle.record_ids.proofs.Steps.{minted}
use Rattle.record_ids.proofs.ids.minted_id.Goals as goal

pub returns : goal.returns
returns c = c.joined.ensures ∙ minted c.args.prefix c.four.result c.four-2.result c.four-3.result c.args.session c.args.request c.args.count c.four.ensures.value c.four-2.ensures.value c.four-3.ensures.value
