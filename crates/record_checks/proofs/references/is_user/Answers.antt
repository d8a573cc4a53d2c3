use Rattle.std.proofs.Common.{sym, ap, subst, ◌∙◌}
use Rattle.record_ids.specs.Ids.{IsUserNumber}
use Rattle.save_meaning.specs.Drafts.{is_user}
use Rattle.record_checks.proofs.Users.{user_is, no_user}
use Rattle.record_checks.proofs.references.is_user.Goals as goal

pub returns-in-Some : goal.returns-in-Some
returns-in-Some c =
    sym (ap (λ x. is_user c.args.users x) c.in-Id.is ∙ user_is c.args.users c.in-Some.n c.in-Id.id c.requires (subst (λ r. IsUserNumber c.in-Id.id r) c.in-Some.is c.user_number.ensures))

pub returns-in-None : goal.returns-in-None
returns-in-None c = sym (ap (λ x. is_user c.args.users x) c.in-Id.is ∙ no_user c.args.users c.in-Id.id c.requires (subst (λ r. IsUserNumber c.in-Id.id r) c.in-None.is c.user_number.ensures))
