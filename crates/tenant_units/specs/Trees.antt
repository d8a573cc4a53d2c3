-- The trees of units and blocks (docs/formats.md, "Units").
use Rattle.std.specs.Prelude.{◌≡◌, ◌⊎◌, ℕ, List, [], ◌∷◌, codes}
use Rattle.apex_lexer.specs.Reading.{Shown}
use Rattle.apex_parse_stmt.specs.Units.{block_unit}
use Rattle.apex_parse_unit.specs.declared.kind.UnitKind.{UnitKind}
use Rattle.apex_parse_unit.specs.declared.kind.UnitKind.TheVariants.{Class, Interface, Trigger}
use Rattle.apex_parse_unit.specs.Classes.{class_or_interface}
use Rattle.apex_parse_unit.specs.Kinds.{unit_kind}
use Rattle.apex_parse_unit.specs.Triggers.{trigger_whole}
use Rattle.fault_words.specs.declared.fault.Fault.{Fault}
use Rattle.apex_syntax.specs.declared.unit.Unit.{Unit as Tree}
use Rattle.bundle_read.specs.declared.entries.UnitPlan.{UnitPlan}
use Rattle.token_grammar.specs.Notation.{Rule}
use Rattle.tenant_units.specs.declared.fault.UnitFault.{UnitFault}
use Rattle.tenant_units.specs.declared.fault.UnitFault.TheVariants.{Wrong, NoMemory}
use Rattle.tenant_units.specs.declared.trees.TextKind.{TextKind}
use Rattle.tenant_units.specs.declared.trees.TextKind.TheVariants.{Unit as UnitText, Block as BlockText}
use Rattle.tenant_units.specs.Faults.{IsFaultOf, IsTree}

-- ---- units

-- a unit is read as its kind says; at most 64 forms are open at once
abbrev pub rule_by : UnitKind → Rule Tree
rule_by Class = class_or_interface 64
rule_by Interface = class_or_interface 64
rule_by Trigger = trigger_whole 64

abbrev pub unit_rule : List Shown → Rule Tree
unit_rule tokens = rule_by (unit_kind tokens)

abbrev pub IsUnit : List ℕ → Tree → Type 0
IsUnit text tree = IsTree unit_rule text tree

-- one tree for each unit
abbrev pub AreUnits : List UnitPlan → List Tree → Type 0
AreUnits [] trees = trees ≡ []
AreUnits (p ∷ ps) [] = ⊥
AreUnits (p ∷ ps) (t ∷ trees) = IsUnit p.text t × AreUnits ps trees

abbrev pub IsUnitFault : UnitPlan → Fault → Type 0
IsUnitFault p fault = IsFaultOf unit_rule p.name p.text fault

-- the first fault of the first unit that has no tree
abbrev pub IsFirstFault : List UnitPlan → Fault → Type 0
IsFirstFault [] fault = ⊥
IsFirstFault (p ∷ ps) fault = IsUnitFault p fault ⊎ (((tree : Tree) × IsUnit p.text tree) × IsFirstFault ps fault)

-- want of memory is free
abbrev pub NoUnits : List UnitPlan → UnitFault → Type 0
NoUnits ps (Wrong fault) = IsFirstFault ps fault
NoUnits ps NoMemory = Unit {0}

-- ---- units have one list of trees or one first fault, and not both

abbrev pub OnlyUnits : List UnitPlan → List Tree → Type 0
OnlyUnits ps trees = ((others : List Tree) → AreUnits ps others → others ≡ trees) × ((fault : Fault) → IsFirstFault ps fault → ⊥)

abbrev pub OnlyFirstFault : List UnitPlan → UnitFault → Type 0
OnlyFirstFault ps (Wrong fault) = ((other : Fault) → IsFirstFault ps other → other ≡ fault) × ((trees : List Tree) → AreUnits ps trees → ⊥)
OnlyFirstFault ps NoMemory = Unit {0}

-- ---- blocks

abbrev pub block_rule : List Shown → Rule Tree
block_rule tokens = block_unit 64

abbrev pub IsBlock : List ℕ → Tree → Type 0
IsBlock text tree = IsTree block_rule text tree

abbrev pub block_name : List ℕ
block_name = codes "block"

-- how a text of a kind is read
abbrev pub rule_of : TextKind → List Shown → Rule Tree
rule_of UnitText = unit_rule
rule_of BlockText = block_rule
