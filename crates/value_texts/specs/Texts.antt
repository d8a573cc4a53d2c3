-- The text of a value, as `System.debug` prints it (docs/language.md, "Texts of values").
use Rattle.std.specs.Prelude.{ℕ, zero, suc, List, [], ◌∷◌, ◌++◌, codes, slice_get, Option, None, Some}
use Rattle.apex_num.specs.declared.cell.Cell.{Cell}
use Rattle.apex_num.specs.declared.kind.LimitKind.TheVariants.{Alloc}
use Rattle.apex_schema.specs.declared.schema.Field.{Field}
use Rattle.apex_schema.specs.declared.schema.Object.{Object as TheObject}
use Rattle.apex_schema.specs.declared.schema.Schema.{Schema}
use Rattle.builtin_table.specs.Answers.{class_name}
use Rattle.builtin_table.specs.Shown.{shown}
use Rattle.limit_meter.specs.Charges.{limit_of}
use Rattle.txn_heap.specs.declared.thing.Record.{Record}
use Rattle.txn_heap.specs.declared.thing.Thing.{Thing}
use Rattle.txn_heap.specs.declared.thing.Thing.TheVariants as T
use Rattle.txn_heap.specs.declared.thing.Value.{Value}
use Rattle.txn_heap.specs.declared.thing.Value.TheVariants.{Plain, Object}

-- texts with a comma and a blank between each two
abbrev pub behind_commas : List (List ℕ) → List ℕ
behind_commas [] = []
behind_commas (t ∷ ts) = codes ", " ++ t ++ behind_commas ts

abbrev pub listed : List (List ℕ) → List ℕ
listed [] = []
listed (t ∷ ts) = t ++ behind_commas ts

-- ---- records: Account:{Name=a, Size=2}

-- the cells that a record knows, by the names of their fields
abbrev pub known_cells : List Field → List (Option Cell) → List (List ℕ × Cell)
known_cells [] cells = []
known_cells (f ∷ fs) [] = []
known_cells (f ∷ fs) (None ∷ cells) = known_cells fs cells
known_cells (f ∷ fs) (Some c ∷ cells) = (f.name, c) ∷ known_cells fs cells

abbrev pub pair_text : List ℕ × Cell → List ℕ
pair_text p = p.0 ++ codes "=" ++ shown p.1

abbrev pub pair_texts : List (List ℕ × Cell) → List (List ℕ)
pair_texts [] = []
pair_texts (p ∷ ps) = pair_text p ∷ pair_texts ps

abbrev pub record_in : Option TheObject → List (Option Cell) → List ℕ
record_in None cells = []
record_in (Some o) cells = o.name ++ codes ":{" ++ listed (pair_texts (known_cells o.fields cells)) ++ codes "}"

abbrev pub record_text : Schema → Record → List ℕ
record_text schema r = record_in (slice_get schema.objects r.object) r.cells

-- ---- collections: (a, b), {a, b}, {k=v, l=w}

abbrev pub texts_by : (Value → List ℕ) → List Value → List (List ℕ)
texts_by text [] = []
texts_by text (v ∷ vs) = text v ∷ texts_by text vs

abbrev pub key_texts : List Cell → List (List ℕ)
key_texts [] = []
key_texts (k ∷ ks) = shown k ∷ key_texts ks

abbrev pub entry_texts : (Value → List ℕ) → List (Cell × Value) → List (List ℕ)
entry_texts text [] = []
entry_texts text (e ∷ es) = (shown e.0 ++ codes "=" ++ text e.1) ∷ entry_texts text es

-- ---- things, by the texts of the values in them

abbrev pub name_of : Option (List ℕ) → List ℕ
name_of None = []
name_of (Some name) = name

-- an instance, an exception too, shows the name of its class as it was declared
abbrev pub thing_text : (Value → List ℕ) → Schema → List (List ℕ) → Option Thing → List ℕ
thing_text text schema classes None = []
thing_text text schema classes (Some (T.Record r)) = record_text schema r
thing_text text schema classes (Some (T.Instance o)) = name_of (slice_get classes o.class)
thing_text text schema classes (Some (T.Exception e)) = class_name e.class
thing_text text schema classes (Some (T.Guard g)) = []
thing_text text schema classes (Some (T.List vs)) = codes "(" ++ listed (texts_by text vs) ++ codes ")"
thing_text text schema classes (Some (T.Set ks)) = codes "{" ++ listed (key_texts ks) ++ codes "}"
thing_text text schema classes (Some (T.Map es)) = codes "{" ++ listed (entry_texts text es) ++ codes "}"

-- the text of a value in which collections nest up to this depth; those in it that nest deeper show nothing
abbrev pub text_within : ℕ → Schema → List (List ℕ) → List Thing → Value → List ℕ
text_within n schema classes heap (Plain c) = shown c
text_within zero schema classes heap (Object r) = []
text_within (suc n) schema classes heap (Object r) = thing_text (text_within n schema classes heap) schema classes (slice_get heap r.place)

-- A collection adds two brackets to the text of what is in it. So one that nests deeper than there are allocation units, as one
-- that contains itself does, has a longer text than can be paid, here as in full, and the request ends before the text is seen.
abbrev pub text_of : Schema → List (List ℕ) → List Thing → Value → List ℕ
text_of = text_within (limit_of Alloc)
