use Rattle.std.proofs.Common.{sym, subst}
use Rattle.row_access.specs.Ranks.{TellsIf}
use Rattle.row_access.proofs.ranks.ranks_of.Goals as goal

pub loop-i-init : goal.loop-i-init
loop-i-init c = λ from. subst (λ r. TellsIf c.args.roles.now c.args.wanted r from) (sym (c.loop.invariant from)) tt
