use Rattle.std.proofs.Common.{◌≡◌, ◌++◌, ◌-◌, ◌+◌, ◌*◌, map, filter, drop}
use Rattle.query_records.specs.Shapes.{is_behind}
use Rattle.query_records.specs.Knowing.{over_of}
use Rattle.query_records.proofs.shaping.+overs.Given as goal

abbrev pub invariant-overs_at-loop-id : goal.invariant-overs_at-loop-id
invariant-overs_at-loop-id l =
    l.overs ++ map (over_of (l.most - 1) l.followed l.selected) (filter (is_behind l.way) (drop l.id-index l.followed))
    ≡ map (over_of (l.most - 1) l.followed l.selected) (filter (is_behind l.way) l.followed)

abbrev pub decreases-over_at : goal.decreases-over_at
decreases-over_at l = 2 * l.most + 1

abbrev pub decreases-overs_at : goal.decreases-overs_at
decreases-overs_at l = 2 * l.most
