use Rattle.std.proofs.Common.{◌≡◌, ◌&&◌, ◌||◌, eqb, ℕ, take}
use Rattle.indexmap.specs.IndexSet.{contains}
use Rattle.class_tables.specs.Lines.{has_number}
use Rattle.class_tables.specs.Pairs.{pair, pair_eq}
use Rattle.class_tables.proofs.line.add_class.Given as goal

abbrev pub invariant-loop-interface : goal.invariant-loop-interface
invariant-loop-interface l = (c i : ℕ) → contains pair_eq l.pairs (pair c i) ≡ (contains pair_eq l.fn.pairs (pair c i) || (eqb l.class c && has_number (take l.interface-index l.interfaces) i))
