use Rattle.std.proofs.Common.{ap, ◌∙◌}
use Rattle.std.specs.Prelude.{bytes_eq}
use Rattle.indexmap.specs.IndexMap.{get}
use Rattle.row_meaning.specs.Stores.{find}
use Rattle.save_loading.specs.Places.{row_at}
use Rattle.save_loading.proofs.by_id.ById.find.Goals as goal

pub returns-in-Some : goal.returns-in-Some
returns-in-Some c =
    c.get-in-Some.ensures.value ∙ ap (row_at c.self.inside.rows) c.in-Some.ensures.value ∙ ap (λ b. row_at c.self.inside.rows (get bytes_eq c.self.inside.places b)) c.bytes.ensures.value
    ∙ c.self.invariant c.args.id.now ∙ ap (λ rows. find rows c.args.id.now) c.self.view_is
