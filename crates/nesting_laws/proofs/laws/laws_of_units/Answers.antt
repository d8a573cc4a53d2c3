use Rattle.token_grammar.specs.Notation.{seen}
use Rattle.nesting_laws.proofs.StmtDepths.{block_unit_within}
use Rattle.nesting_laws.proofs.UnitDepths.{class_unit_within, trigger_unit_within}
use Rattle.nesting_laws.proofs.laws.laws_of_units.Goals as goal

pub returns-clause-blocks : goal.returns-clause-blocks
returns-clause-blocks c = λ tokens room unit h. (block_unit_within room).by (seen tokens) 0 unit h.end h.found.reads

pub returns-clause-classes : goal.returns-clause-classes
returns-clause-classes c = λ tokens room unit h. (class_unit_within room).by (seen tokens) 0 unit h.end h.found.reads

pub returns-clause-triggers : goal.returns-clause-triggers
returns-clause-triggers c = λ tokens room unit h. (trigger_unit_within room).by (seen tokens) 0 unit h.end h.found.reads
