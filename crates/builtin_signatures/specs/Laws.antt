-- What the tables of methods have in common.
use Rattle.std.specs.Prelude.{◌≡◌, ℕ, List, length, Some}
use Rattle.builtin_table.specs.declared.method.Builtin.{Builtin}
use Rattle.builtin_names.specs.Names.{signature_of}
use Rattle.builtin_signatures.specs.Dues.{each, dues_of}

-- what is found for a number of arguments takes as many
abbrev pub CountsAgree : Type 0
CountsAgree = (kind method : List ℕ) (n : ℕ) (b : Builtin) → signature_of kind method n ≡ Some b → length (each (dues_of b)) ≡ n
