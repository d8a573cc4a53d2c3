use Rattle.std.proofs.Common.{ap, ◌∙◌}
use Rattle.rolled_rows.specs.Groups.{key, rows_in}
use Rattle.rolled_rows.proofs.Grouping.{under_found}
use Rattle.rolled_rows.proofs.groups.Details.under.Goals as goal

pub returns-in-Some : goal.returns-in-Some
returns-in-Some c =
    under_found c.args.self.now.schema.now c.args.detail c.args.master.now c.args.self.now.rows.now c.requires c.in-Some.field c.rows_in.result.now c.in-Some.ensures
    (c.rows_in.ensures ∙ ap (λ id. rows_in c.args.self.now.groups (key c.args.detail c.in-Some.field id)) c.bytes.ensures.value ∙ c.args.self.now.are_groups c.args.detail c.in-Some.field c.args.master.now.id)
