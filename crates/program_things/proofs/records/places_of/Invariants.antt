use Rattle.std.proofs.Common.{◌≡◌, drop}
use Rattle.request_states.specs.Statements.{places_of}
use Rattle.program_things.specs.Records.{behind}
use Rattle.program_things.proofs.records.places_of.Given as goal

abbrev pub invariant-loop-value : goal.invariant-loop-value
invariant-loop-value l = behind l.places (places_of (drop l.value-index l.values)) ≡ places_of l.values
