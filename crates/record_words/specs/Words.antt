-- The words of records (docs/platform.md, "Words of records").
use Rattle.std.specs.Prelude.{ℕ, ◌+◌, Bool, cond, List, [], ◌∷◌, ◌++◌, Option, None, Some}
use Rattle.apex_schema.specs.declared.schema.Field.{Field}
use Rattle.apex_schema.specs.declared.schema.FieldKind.{FieldKind}
use Rattle.apex_schema.specs.declared.schema.FieldKind.TheVariants as F
use Rattle.apex_schema.specs.declared.schema.Link.{Link}
use Rattle.apex_schema.specs.declared.schema.Object.{Object}
use Rattle.apex_text.specs.Fold.{folded}
use Rattle.record_words.specs.declared.entries.RecordKey.{RecordKey}
use Rattle.record_words.specs.contracts.entries.RecordKeyPartialEq.TheImpl.{ghosts}
use Rattle.record_words.specs.declared.entries.RecordWord.{RecordWord}
use Rattle.record_words.specs.declared.entries.RecordWord.TheVariants as W
use Rattle.record_words.specs.declared.entries.WordEntry.{WordEntry}

abbrev pub key_eq : RecordKey → RecordKey → Bool
key_eq = ghosts.eq

abbrev pub record_key : ℕ → List ℕ → RecordKey
record_key object name = record { object = object; name = name }

-- the word of an object, as it is written
abbrev pub entry : ℕ → List ℕ → RecordWord → WordEntry
entry object name word = record { key = record_key object (folded name); word = word }

-- a field that leads to a parent has a word on each side
abbrev pub link_words : ℕ → ℕ → Link → List WordEntry
link_words object field link = entry object link.relation (W.Parent field) ∷ entry link.to link.children (W.Children object field) ∷ []

abbrev pub kind_words : ℕ → ℕ → FieldKind → List WordEntry
kind_words object field (F.Lookup link) = link_words object field link
kind_words object field (F.MasterDetail link) = link_words object field link
kind_words object field _ = []

abbrev pub field_words : ℕ → ℕ → Field → List WordEntry
field_words object n f = entry object f.name (W.Field n) ∷ kind_words object n f.kind

-- the fields from the one with number `n` on
abbrev pub fields_from : ℕ → ℕ → List Field → List WordEntry
fields_from object n [] = []
fields_from object n (f ∷ fs) = field_words object n f ++ fields_from object (n + 1) fs

abbrev pub words_from : ℕ → List Object → List WordEntry
words_from n [] = []
words_from n (o ∷ os) = fields_from n 0 o.fields ++ words_from (n + 1) os

-- what the first of these words with this key means
abbrev pub word_in : List WordEntry → RecordKey → Option RecordWord
word_in [] k = None
word_in (e ∷ es) k = cond (key_eq e.key k) (Some e.word) (word_in es k)

abbrev pub word_of : List Object → RecordKey → Option RecordWord
word_of objects k = word_in (words_from 0 objects) k
