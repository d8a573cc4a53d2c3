use Rattle.std.proofs.Common.{◌≤◌, ◌<◌, ◌+◌, ◌-◌, length}
use Rattle.apex_io.specs.Outside.{Takes}
use Rattle.apex_io.proofs.whole.read_all.Given as goal

abbrev pub invariant-pulls : goal.invariant-pulls
invariant-pulls g l = record {
  taken : Takes (g.S.Source.left l.fn.source) l.bytes.items (g.S.Source.left l.source);
  within : length l.bytes.items ≤ l.most;
  room : 0 < length l.room.items;
  counted : g.S.Source.faults l.fn.source ≤ g.S.Source.faults l.source;
  asked : g.S.Source.calls l.source ≤ g.S.Source.calls l.fn.source + length l.bytes.items;
}

abbrev pub decreases-pulls : goal.decreases-pulls
decreases-pulls g l = l.most - length l.bytes.items
