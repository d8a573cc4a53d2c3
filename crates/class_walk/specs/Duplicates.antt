-- Which members of a class are named twice (docs/language.md, "Members").
use Rattle.std.specs.Prelude.{ℕ, ◌||◌, Bool, List, [], ◌∷◌, bytes_eq, length, map}
use Rattle.std.specs.List.{list_any}
use Rattle.apex_syntax.specs.declared.unit.MemberTree.{MemberTree}
use Rattle.apex_syntax.specs.declared.unit.MemberTree.TheVariants as M
use Rattle.apex_syntax.specs.declared.unit.SignatureTree.{SignatureTree}
use Rattle.class_walk.specs.declared.label.MemberLabel.{MemberLabel}
use Rattle.class_walk.specs.declared.label.MethodLabel.{MethodLabel}
use Rattle.class_walk.specs.declared.label.MemberLabel.TheVariants.{Field, Method}
use Rattle.class_walk.specs.Keys.{label_eq}
use Rattle.indexmap.specs.IndexSet.{insert_key}

abbrev pub label : List ℕ → ℕ → MethodLabel
label name count = record { name = name; count = count }

-- a field is told by its name, a method by its name and the number of its parameters, a constructor by that number
abbrev pub label_of : MemberTree → MemberLabel
label_of (M.Field span ms kind word value) = Field word.name
label_of (M.Property span ms kind word) = Field word.name
label_of (M.Method span ms result word params body) = Method (label word.name (length params))
label_of (M.Constructor span ms word params body) = Method (label [] (length params))

abbrev pub signature_label : SignatureTree → MemberLabel
signature_label s = Method (label s.name.name (length s.params))

-- the names of fields and of methods that came before, and these methods, each once
pub record Seen : Type 0 where
  pub fields : List (List ℕ)
  pub methods : List (List ℕ)
  pub labels : List MethodLabel

abbrev pub nothing_seen : Seen
nothing_seen = record { fields = []; methods = []; labels = [] }

abbrev pub has_name : List (List ℕ) → List ℕ → Bool
has_name names name = list_any (bytes_eq name) names

-- a field has no name of a field or a method before it; a method has no name of a field before it, and no label of a method
abbrev pub is_duplicate : Seen → MemberLabel → Bool
is_duplicate seen (Field name) = has_name seen.fields name || has_name seen.methods name
is_duplicate seen (Method l) = has_name seen.fields l.name || list_any (label_eq l) seen.labels

abbrev pub with_label : Seen → MemberLabel → Seen
with_label seen (Field name) = record { fields = insert_key bytes_eq seen.fields name; methods = seen.methods; labels = seen.labels }
with_label seen (Method l) =
    record { fields = seen.fields; methods = insert_key bytes_eq seen.methods l.name; labels = insert_key label_eq seen.labels l }

-- for each member, whether it is named twice
abbrev pub duplicates_from : Seen → List MemberLabel → List Bool
duplicates_from seen [] = []
duplicates_from seen (l ∷ ls) = is_duplicate seen l ∷ duplicates_from (with_label seen l) ls

abbrev pub duplicates : List MemberTree → List Bool
duplicates members = duplicates_from nothing_seen (map label_of members)

abbrev pub signature_duplicates : List SignatureTree → List Bool
signature_duplicates signatures = duplicates_from nothing_seen (map signature_label signatures)
