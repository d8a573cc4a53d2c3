-- A law of texts, which shows that the depth to which they are told leaves nothing out that could be paid (docs/language.md, "Texts of values").
use Rattle.std.specs.Prelude.{◌≡◌, ◌≤◌, ◌⊎◌, ◌*◌, ℕ, List, length}
use Rattle.apex_num.specs.declared.kind.LimitKind.TheVariants.{Alloc}
use Rattle.apex_schema.specs.declared.schema.Schema.{Schema}
use Rattle.limit_meter.specs.Charges.{limit_of}
use Rattle.txn_heap.specs.declared.thing.Thing.{Thing}
use Rattle.txn_heap.specs.declared.thing.Value.{Value}
use Rattle.value_texts.specs.Texts.{text_of, text_within}

-- at each greater depth the text is the same one, or it is twice as long as can be paid
abbrev pub DeepIsLong : Type 0
DeepIsLong =
    (schema : Schema) (classes : List (List ℕ)) (heap : List Thing) (v : Value) (n : ℕ) → limit_of Alloc ≤ n →
    (text_within n schema classes heap v ≡ text_of schema classes heap v) ⊎ (2 * limit_of Alloc ≤ length (text_of schema classes heap v))
