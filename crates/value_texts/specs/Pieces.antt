-- Texts that are made piece by piece, in the room that there is. Only private functions cite these words.
use Rattle.std.specs.Prelude.{◌≡◌, ◌<◌, ◌≤◌, ℕ, suc, ◌+◌, ◌-◌, ◌*◌, eqb, cond, Bool, true, false, List, [], ◌∷◌, ◌++◌, length, drop, codes, slice_get, Option, None, Some, Result, Ok, Err, OnOk, ⊤, string_bytes}
use Rattle.apex_num.specs.declared.cell.Cell.{Cell}
use Rattle.apex_num.specs.declared.kind.LimitKind.TheVariants.{Alloc}
use Rattle.apex_schema.specs.declared.schema.Field.{Field}
use Rattle.apex_schema.specs.declared.schema.Schema.{Schema}
use Rattle.limit_meter.specs.Charges.{limit_of}
use Rattle.txn_heap.specs.declared.thing.Thing.{Thing}
use Rattle.txn_heap.specs.declared.thing.Thing.TheVariants as T
use Rattle.txn_heap.specs.declared.thing.Value.{Value}
use Rattle.value_texts.specs.Texts.{listed, behind_commas, pair_text, texts_by, key_texts, entry_texts, text_within}
use Rattle.value_texts.specs.declared.line.TextEnd.{TextEnd}
use Rattle.value_texts.specs.declared.line.TextEnd.TheVariants.{TooLong, NoMemory}
use Rattle.value_texts.specs.declared.line.Line.{Line}
use Rattle.value_texts.specs.declared.walk.Rest.{Rest}
use Rattle.value_texts.specs.declared.walk.Scene.{Scene}

-- a text was put behind a line
abbrev pub Done : List ℕ → Line → Line → Type 0
Done text old new = (string_bytes new.text ≡ string_bytes old.text ++ text) × (new.left + length text ≡ old.left)

-- a line has no room for a text
abbrev pub Stops : List ℕ → Line → TextEnd → Type 0
Stops text old TooLong = old.left < length text
Stops text old NoMemory = ⊤

abbrev pub Tells : {A : Type 0} → List ℕ → Line → Line → Result A TextEnd → Type 0
Tells text old new (Ok done) = Done text old new
Tells text old new (Err e) = Stops text old e

-- a text that may have so many bytes
abbrev pub Comes : {A : Type 0} → (A → List ℕ) → ℕ → List ℕ → Result A TextEnd → Type 0
Comes bytes most text (Ok done) = (bytes done ≡ text) × (length text ≤ most)
Comes bytes most text (Err TooLong) = most < length text
Comes bytes most text (Err NoMemory) = ⊤

abbrev pub comma : Bool → List ℕ
comma true = []
comma false = codes ", "

-- what is left of texts with a comma between each two, where none or some stand before
abbrev pub tail_of : Bool → List (List ℕ) → List ℕ
tail_of true ts = listed ts
tail_of false ts = behind_commas ts

-- ---- records

-- a field with its cell, where it is known
abbrev pub known_one : Field → Option Cell → List (List ℕ × Cell)
known_one f None = []
known_one f (Some c) = (f.name, c) ∷ []

-- the same as a text, with a comma in front of each but the first one
abbrev pub piece : Bool → Field → Option Cell → List ℕ
piece first f None = []
piece first f (Some c) = comma first ++ pair_text (f.name, c)

-- whether none stands before what comes behind a cell
abbrev pub still_first : Bool → Option Cell → Bool
still_first first None = first
still_first first (Some c) = false

-- ---- collections

abbrev pub closing : Thing → List ℕ
closing (T.List vs) = codes ")"
closing (T.Set ks) = codes "}"
closing (T.Map es) = codes "}"
closing _ = []

abbrev pub item_texts : (Value → List ℕ) → Thing → List (List ℕ)
item_texts text (T.List vs) = texts_by text vs
item_texts text (T.Set ks) = key_texts ks
item_texts text (T.Map es) = entry_texts text es
item_texts text _ = []

-- what comes in a collection from an item on
abbrev pub rest_of : (Value → List ℕ) → ℕ → Option Thing → List ℕ
rest_of text next None = []
rest_of text next (Some t) = tail_of (eqb next 0) (drop next (item_texts text t)) ++ closing t

-- the text of a value in so many open collections
abbrev pub text_at : ℕ → Schema → List (List ℕ) → List Thing → ℕ → Value → List ℕ
text_at deep schema classes heap open' = text_within (deep - open') schema classes heap

-- what is still to come of the collections that are open, the innermost first
abbrev pub pending : (ℕ → Value → List ℕ) → List Thing → List Rest → List ℕ
pending text heap [] = []
pending text heap (r ∷ rs) = rest_of (text (suc (length rs))) r.next (slice_get heap r.place) ++ pending text heap rs

abbrev pub seen_at : Scene → ℕ → Value → List ℕ
seen_at scene = text_at (limit_of Alloc) scene.schema.now scene.classes.now scene.heap.now

abbrev pub pends : Scene → List Rest → List ℕ
pends scene = pending (seen_at scene) scene.heap.now

-- how long the walk may still go on
abbrev pub effort : ℕ → List Rest → ℕ
effort left [] = 4 * left
effort left (r ∷ rs) = 4 * left + 2 * suc (length rs) + cond (eqb r.next 0) 1 0

-- a text was put behind a line, or its first part was, and the rest is still to come
abbrev pub Begun : (List Rest → List ℕ) → List ℕ → Line → List Rest → Line → List Rest → Type 0
Begun pend text old stack new open' =
    (string_bytes new.text ++ pend open' ≡ string_bytes old.text ++ (text ++ pend stack)) × (new.left + length (string_bytes new.text) ≡ old.left + length (string_bytes old.text))

abbrev pub Opens : {A : Type 0} → (List Rest → List ℕ) → List ℕ → Line → List Rest → Line → List Rest → Result A TextEnd → Type 0
Opens pend text old stack new open' (Ok done) = Begun pend text old stack new open'
Opens pend text old stack new open' (Err e) = Stops text old e

-- the same; no more collections are opened than brackets are put, and the walk isn't longer for it
abbrev pub Walks : {A : Type 0} → Scene → List ℕ → Line → List Rest → Line → List Rest → Result A TextEnd → Type 0
Walks scene text old stack new open' r =
    Opens (pends scene) text old stack new open' r × OnOk r (length open' + length (string_bytes old.text) ≤ length stack + length (string_bytes new.text)) × OnOk r (effort new.left open' ≤ effort old.left stack)
