-- Paths of queries (docs/language.md, "Queries in code").
use Rattle.std.specs.Prelude.{ℕ, Bool, true, cond, List, [], ◌∷◌, ◌++◌, Option, None, Some}
use Rattle.apex_rows.specs.declared.query.CondOp.{CondOp}
use Rattle.apex_rows.specs.declared.query.CondOp.TheVariants as O
use Rattle.apex_rows.specs.declared.query.SortKey.{SortKey}
use Rattle.fault_words.specs.declared.fault.FaultWord.TheVariants.{BadQuery}
use Rattle.apex_schema.specs.declared.schema.Field.{Field}
use Rattle.apex_schema.specs.declared.schema.Object.{Object}
use Rattle.apex_syntax.specs.declared.query.CompareOp.{CompareOp}
use Rattle.apex_syntax.specs.declared.query.CompareOp.TheVariants as C
use Rattle.apex_syntax.specs.declared.query.KeyTree.{KeyTree}
use Rattle.apex_syntax.specs.declared.query.PathTree.{PathTree}
use Rattle.apex_syntax.specs.declared.word.Word.{Word}
use Rattle.name_meanings.specs.Records.{cell_type, field_in, parent_object}
use Rattle.query_terms.specs.declared.path.FieldPath.{FieldPath}
use Rattle.query_terms.specs.declared.path.Lead.{Lead}
use Rattle.query_terms.specs.declared.path.Lead.TheVariants as L
use Rattle.query_terms.specs.declared.path.Place.{Place}
use Rattle.query_terms.specs.declared.path.Place.TheVariants.{Record, Cell}
use Rattle.record_words.specs.declared.entries.RecordWord.{RecordWord}
use Rattle.record_words.specs.declared.entries.RecordWord.TheVariants as W
use Rattle.record_words.specs.Words.{word_of}
use Rattle.static_types.specs.declared.kind.Primitive.{Primitive}
use Rattle.static_types.specs.declared.kind.Primitive.TheVariants as P
use Rattle.static_types.specs.Types.{same_primitive}
use Rattle.type_names.specs.Walks.{Walk, Gives, wrong, onward}

abbrev pub to_cell : ℕ → Option Field → Lead
to_cell n (Some f) = L.Cell n (cell_type f.kind)
to_cell n None = L.Nowhere

abbrev pub to_object : ℕ → Option ℕ → Lead
to_object n (Some to) = L.Parent n to
to_object n None = L.Nowhere

abbrev pub to_parent : ℕ → Option Field → Lead
to_parent n (Some f) = to_object n (parent_object f.kind)
to_parent n None = L.Nowhere

-- a children word leads nowhere
abbrev pub lead_of : List Object → ℕ → Option RecordWord → Lead
lead_of objects object (Some (W.Field n)) = to_cell n (field_in objects object n)
lead_of objects object (Some (W.Parent n)) = to_parent n (field_in objects object n)
lead_of objects object _ = L.Nowhere

abbrev pub lead_from : List Object → ℕ → Word → Lead
lead_from objects object w = lead_of objects object (word_of objects (record { object = object; name = w.name }))

-- nothing goes on behind a field
abbrev pub next_lead : List Object → Place → Word → Lead
next_lead objects (Record object) w = lead_from objects object w
next_lead objects (Cell n kind) w = L.Nowhere

abbrev pub ended : ℕ → Place → List ℕ → Walk FieldPath
ended at (Cell n kind) parents = Gives (record { path = record { parents = parents; field = n }; kind = kind })
ended at (Record object) parents = wrong BadQuery at

-- one name further
abbrev pub moved : ℕ → (Place → List ℕ → Walk FieldPath) → List ℕ → Lead → Walk FieldPath
moved at go parents (L.Parent n to) = go (Record to) (parents ++ n ∷ [])
moved at go parents (L.Cell n kind) = go (Cell n kind) parents
moved at go parents L.Nowhere = wrong BadQuery at

abbrev pub along : List Object → ℕ → List Word → Place → List ℕ → Walk FieldPath
along objects at [] place parents = ended at place parents
along objects at (w ∷ ws) place parents = moved at (along objects at ws) parents (next_lead objects place w)

abbrev pub field_path : List Object → ℕ → PathTree → Walk FieldPath
field_path objects object tree = along objects tree.span.from tree.names (Record object) []

abbrev pub cond_op : CompareOp → CondOp
cond_op C.Equal = O.Equal
cond_op C.Differs = O.Differs
cond_op C.Less = O.Less
cond_op C.AtMost = O.AtMost
cond_op C.More = O.More
cond_op C.AtLeast = O.AtLeast
cond_op C.Like = O.Like

-- LIKE is for texts, and everything else for each type
abbrev pub compares : CompareOp → Primitive → Bool
compares C.Like kind = same_primitive kind P.String
compares op kind = true

abbrev pub compared_path : List Object → ℕ → PathTree → CompareOp → Walk FieldPath
compared_path objects object tree op =
    onward (field_path objects object tree) (λ found. cond (compares op found.kind) (Gives found) (wrong BadQuery tree.span.from))

abbrev pub sort_key : List Object → ℕ → KeyTree → Walk SortKey
sort_key objects object tree =
    onward (field_path objects object tree.path) (λ found. Gives (record { path = found.path; descending = tree.descending; nulls_last = tree.nulls_last }))
