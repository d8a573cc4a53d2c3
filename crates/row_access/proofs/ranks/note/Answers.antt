use Rattle.std.proofs.Common.{sym, ◌∙◌, subst}
use Rattle.row_access.specs.Ranks.{TellsIf}
use Rattle.row_access.proofs.Ascents.{above_is, told}
use Rattle.row_access.proofs.ranks.note.Goals as goal

pub up-preserved : goal.up-preserved
up-preserved c = (
  told c.args.roles.now c.args.wanted c.up.ranks c.up.at c.up.next c.up.invariant.0 c.up.invariant.1,
  subst (λ r. TellsIf c.args.roles.now c.args.wanted r c.in-Some.above) (sym c.rank_above.ensures ∙ c.in-Some-rank_above.is)
      (above_is c.args.roles.now c.args.wanted c.up.next c.up.at c.in-Some.above c.up.invariant.1 (sym c.parent_of.ensures ∙ c.in-Some.is) c.if-above-wanted.false),
)
