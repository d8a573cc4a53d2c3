use Rattle.std.proofs.Common.{◌≡◌, drop}
use Rattle.apex_types.specs.Homes.{home}
use Rattle.apex_types.specs.Members.{members_from}
use Rattle.apex_types.proofs.member.members.Given as goal

abbrev pub invariant-loop-i : goal.invariant-loop-i
invariant-loop-i l =
    members_from (home l.home) l.class l.name l.flags l.i (drop l.i l.trees) l.so_far
    ≡ members_from (home l.home) l.class l.name l.flags 0 l.trees l.fn.so_far
