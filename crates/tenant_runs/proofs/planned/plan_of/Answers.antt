use Rattle.std.proofs.Common.{subst, sym, ◌∙◌}
use Rattle.stack_code.specs.Means.{Means}
use Rattle.tenant_runs.proofs.planned.plan_of.Goals as goal

pub returns : goal.returns
returns c = record {
  means = subst (λ i. Means c.args.part.now.program i) (sym c.in_ok-image.ensures.image) (c.laws_of_images.ensures.means c.args.part.now.program);
  schema = c.in_ok-schema.ensures;
  sessions = c.in_ok-sessions.ensures ∙ c.as_slice.ensures;
}
