-- How long sets and maps are after a change.
use Rattle.std.proofs.Common.{◌≡◌, ℕ, suc, Bor, ◌+◌, ◌-◌, ◌≤◌, Bool, true, false, cond, ◌||◌, List, [], ◌∷◌, ◌++◌, length, Option, None, Some, is_some, Result, Ok, Err, IfOk, if◌then◌else◌, refl, sym, ap, ◌∙◌, arith, length-append}
use Rattle.std.specs.Map.{lookup}
use Rattle.std.specs.Option.{option_copied}
use Rattle.indexmap.proofs.SetLemmas.{keys_insert_entry, keys_insert_all}
use Rattle.apex_num.specs.declared.cell.Cell.{Cell}
use Rattle.txn_heap.specs.Equal.{same}
use Rattle.txn_heap.specs.Words.{has, with_key, with_keys, without_key, with_entry, with_entries, without_entry, keys_of}
use Rattle.txn_heap.specs.declared.change.Change.{Change}
use Rattle.txn_heap.specs.declared.change.Change.TheVariants as Now
use Rattle.txn_heap.specs.declared.thing.Value.{Value}
use Rattle.heap_units.specs.Growths.{set_growth, map_growth}

pub has_lookup : (k : Cell) (es : List (Cell × Value)) → is_some (lookup (same k) es) ≡ has k (keys_of es)
has_lookup k [] = refl
has_lookup k (e ∷ es) = go (same k e.0) (has_lookup k es)
  where
    go : (b : Bool) → is_some (lookup (same k) es) ≡ has k (keys_of es) → is_some (cond b (Some e.1) (lookup (same k) es)) ≡ (b || has k (keys_of es))
    go true h = refl
    go false h = h

keys_long : (es : List (Cell × Value)) → length (keys_of es) ≡ length es
keys_long [] = refl
keys_long (e ∷ es) = ap suc (keys_long es)

key_added : (ks : List Cell) (k : Cell) (b : Bool) → has k ks ≡ b → length (with_key ks k) ≡ length ks + cond b 0 1
key_added ks k true h = ap (λ (b : Bool). length (if b then ks else ks ++ k ∷ [])) h ∙ omega arith
key_added ks k false h = ap (λ (b : Bool). length (if b then ks else ks ++ k ∷ [])) h ∙ length-append ks (k ∷ [])

pub entry_added : (es : List (Cell × Value)) (k : Cell) (v : Value) (b : Bool) → has k (keys_of es) ≡ b → length (with_entry es k v) ≡ length es + cond b 0 1
entry_added es k v b h =
    sym (keys_long (with_entry es k v)) ∙ ap length (keys_insert_entry same es k v) ∙ key_added (keys_of es) k b h ∙ ap (λ n. n + cond b 0 1) (keys_long es)

pub pairs_added : {E : Type 0} (r : Result ℕ E) (es more : List (Cell × Value)) (keys : List Cell) → keys ≡ keys_of more → IfOk r (λ n. n ≡ length (with_keys (keys_of es) keys) - length (keys_of es))
    → IfOk r (λ n. n ≡ length (with_entries es more) - length es)
pairs_added (Ok n) es more keys is h =
    let all : length (with_keys (keys_of es) keys) ≡ length (with_entries es more) = ap (λ l. length (with_keys (keys_of es) l)) is ∙ ap length (sym (keys_insert_all same es more)) ∙ keys_long (with_entries es more) in
    h ∙ (λ i. all i - keys_long es i)
pairs_added (Err e) es more keys is h = tt

key_taken : (k : Cell) (ks : List Cell) → length (without_key ks k) ≤ length ks
key_taken k [] = omega arith
key_taken k (x ∷ xs) = go (same k x) (key_taken k xs)
  where
    go : (b : Bool) → length (without_key xs k) ≤ length xs → length (cond b xs (x ∷ without_key xs k)) ≤ length (x ∷ xs)
    go true h = omega arith
    go false h = omega (arith, h)

entry_taken : (k : Cell) (es : List (Cell × Value)) → length (without_entry es k) ≤ length es
entry_taken k [] = omega arith
entry_taken k (x ∷ xs) = go (same k x.0) (entry_taken k xs)
  where
    go : (b : Bool) → length (without_entry xs k) ≤ length xs → length (cond b xs (x ∷ without_entry xs k)) ≤ length (x ∷ xs)
    go true h = omega arith
    go false h = omega (arith, h)

pub no_element : (c : Change) (ks : List Cell) → ((k : Cell) → c ≡ Now.Add k → ⊥) → ((more : List Cell) → c ≡ Now.AddAll more → ⊥) → 0 ≡ set_growth c ks
no_element (Now.Add k) ks one all = absurd (one k refl)
no_element (Now.AddAll more) ks one all = absurd (all more refl)
no_element (Now.RemoveKey k) ks one all = let h = key_taken k ks in omega (arith, h)
no_element (Now.Push v) ks one all = omega arith
no_element (Now.Insert n v) ks one all = omega arith
no_element (Now.Set n v) ks one all = omega arith
no_element (Now.RemoveAt n) ks one all = omega arith
no_element (Now.Append vs) ks one all = omega arith
no_element (Now.Put k v) ks one all = omega arith
no_element (Now.PutAll es) ks one all = omega arith
no_element (Now.Know n c) ks one all = omega arith

pub no_entry : (c : Change) (es : List (Cell × Value)) → ((k : Cell) (v : Value) → c ≡ Now.Put k v → ⊥) → ((more : List (Cell × Value)) → c ≡ Now.PutAll more → ⊥) → 0 ≡ map_growth c es
no_entry (Now.Put k v) es one all = absurd (one k v refl)
no_entry (Now.PutAll more) es one all = absurd (all more refl)
no_entry (Now.RemoveKey k) es one all = let h = entry_taken k es in omega (arith, h)
no_entry (Now.Add k) es one all = omega arith
no_entry (Now.AddAll ks) es one all = omega arith
no_entry (Now.Push v) es one all = omega arith
no_entry (Now.Insert n v) es one all = omega arith
no_entry (Now.Set n v) es one all = omega arith
no_entry (Now.RemoveAt n) es one all = omega arith
no_entry (Now.Append vs) es one all = omega arith
no_entry (Now.Know n c) es one all = omega arith

pub some_copied : {A : Type 0} (o : Option (Bor A)) → is_some (option_copied o) ≡ is_some o
some_copied None = refl
some_copied (Some a) = refl

pub put_growth : (c : Change) (es : List (Cell × Value)) (k : Cell) (v : Value) (b : Bool) → c ≡ Now.Put k v → has k (keys_of es) ≡ b → cond b 0 1 ≡ map_growth c es
put_growth c es k v true is h = (let e = entry_added es k v true h in omega (arith, e)) ∙ sym (ap (λ c. map_growth c es) is)
put_growth c es k v false is h = (let e = entry_added es k v false h in omega (arith, e)) ∙ sym (ap (λ c. map_growth c es) is)
