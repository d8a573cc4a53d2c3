use Rattle.std.proofs.Common.{◌∙◌, subst}
use Rattle.record_ids.specs.Ids.{IsUserNumber}
use Rattle.row_access.proofs.Owners.{owner_is, no_owner, no_user}
use Rattle.row_access.proofs.roles.owner_role.Goals as goal

pub returns-in_default : goal.returns-in_default
returns-in_default c = no_owner c.args.users.now _ c.requires c.in_default.ensures

pub returns-in-Some-user_number : goal.returns-in-Some-user_number
returns-in-Some-user_number c =
    c.role_at.ensures ∙ owner_is c.args.users.now _ c.requires c.in-Some.owner.now c.in-Some-user_number.number c.in-Some.ensures (subst (λ r. IsUserNumber c.in-Some.owner.now r) c.in-Some-user_number.is c.user_number.ensures)

pub returns-in-None : goal.returns-in-None
returns-in-None c = no_user c.args.users.now _ c.requires c.in-Some.owner.now c.in-Some.ensures (subst (λ r. IsUserNumber c.in-Some.owner.now r) c.in-None.is c.user_number.ensures)
