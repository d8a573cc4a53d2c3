use Rattle.legal_trails.proofs.Turned.{turns_are_legal, served_is_turned}
use Rattle.legal_trails.proofs.turn_laws.laws_of_turns.Goals as goal

pub returns-clause-legal : goal.returns-clause-legal
returns-clause-legal c = turns_are_legal

pub returns-clause-turned : goal.returns-clause-turned
returns-clause-turned c = served_is_turned
