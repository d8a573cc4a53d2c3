use Rattle.std.proofs.Common.{◌≡◌}
use Rattle.serde_json.specs.View.{members_view}
use Rattle.bundle_read.specs.Readings.{unknown_key, texts}
use Rattle.bundle_read.proofs.lists.unknown_key.Given as goal

abbrev pub invariant-loop-key : goal.invariant-loop-key
invariant-loop-key l = unknown_key (texts l.keys) (members_view l.fn.members.entries) ≡ unknown_key (texts l.keys) (members_view l.key-iterator)
