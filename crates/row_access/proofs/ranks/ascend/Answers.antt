use Rattle.std.proofs.Common.{Some, sym, ap, ◌∙◌, subst}
use Rattle.row_access.specs.Ranks.{Tells, TellsIf}
use Rattle.row_access.proofs.Ascents.{climb, no_more, arrived, known_after, known_never}
use Rattle.row_access.proofs.ranks.ascend.Goals as goal

pub returns-in-Some-After : goal.returns-in-Some-After
returns-in-Some-After c =
    subst (λ r. Tells c.args.roles.now c.args.wanted r c.args.from) (sym c.later.ensures)
    (known_after c.args.roles.now c.args.wanted c.args.from c.up.steps c.up.at c.in-Some-After.more c.up.invariant
    (subst (λ r. TellsIf c.args.roles.now c.args.wanted r c.up.at) (sym c.known.ensures ∙ c.in-Some-After.is ∙ ap Some c.in-Some-After.field-0-is) (c.requires c.up.at)))

pub returns-in-Some-Never : goal.returns-in-Some-Never
returns-in-Some-Never c =
    known_never c.args.roles.now c.args.wanted c.args.from c.up.steps c.up.at c.up.invariant
    (subst (λ r. TellsIf c.args.roles.now c.args.wanted r c.up.at) (sym c.known.ensures ∙ c.in-Some-Never.is ∙ ap Some c.in-Some-Never.field-0-is) (c.requires c.up.at))

pub returns-in_default : goal.returns-in_default
returns-in_default c = no_more c.args.roles.now c.args.wanted c.args.from c.up.steps c.up.at c.up.invariant (sym c.parent_of.ensures ∙ c.in_default.is)

pub returns-then-above-wanted : goal.returns-then-above-wanted
returns-then-above-wanted c =
    arrived c.args.roles.now c.args.wanted c.args.from c.up.steps c.up.at c.in-Some.above c.up.invariant c.up-test.true (sym c.parent_of.ensures ∙ c.in-Some.is) c.if-above-wanted.true

pub up-preserved : goal.up-preserved
up-preserved c =
    climb c.args.roles.now c.args.wanted c.args.from c.up.steps c.up.at c.in-Some.above c.up.invariant c.up-test.true (sym c.parent_of.ensures ∙ c.in-Some.is) c.if-above-wanted.false
