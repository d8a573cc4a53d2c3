-- Entries behind others, where there are such. Only proofs cite this word.
use Rattle.std.specs.Prelude.{List, ◌++◌, Option, None, Some}

abbrev pub behind : {A : Type 0} → List A → Option (List A) → Option (List A)
behind done None = None
behind done (Some more) = Some (done ++ more)
