-- Lists that are read item by item, and keys that are looked at in their order.
use Rattle.std.proofs.Common.{arith, ◌≡◌, ◌+◌, ◌<◌, ℕ, suc, true, false, bytes_eq, ◌||◌, cond, eqb, String, string_bytes, List, [], ◌∷◌, ◌++◌, length, drop, get_or, Option, Some, Result, Ok, Err, refl, sym, ap, ◌∙◌, append_assoc, add-one, drop-cons, Bor, Global}
use Rattle.std.specs.List.{list_any}
use Rattle.serde_json.specs.Data.{Data, item}
use Rattle.serde_json.specs.View.{view, items_view, members_view}
use Rattle.serde_json.specs.declared.value.Value.{Value}
use Rattle.fault_words.specs.declared.fault.Fault.{Fault}
use Rattle.fault_words.specs.declared.fault.FaultWord.TheVariants.{TooMany}
use Rattle.bundle_read.specs.declared.fault.BundleFault.{BundleFault}
use Rattle.bundle_read.specs.Readings.{◌>>=◌, within, count, is_over, short, each, item_name, here, IsFault, Stops, has, texts, unknown_key}
use Rattle.bundle_read.specs.declared.entries.TenantPlan.{TenantPlan}
use Rattle.bundle_read.specs.Bundles.{filled, tenant, each_tenant}
use Rattle.bundle_read.proofs.Steps.{fault_stops, then_stops}

-- ---- lengths

pub count_long : (vs : List Value) → count (items_view vs) ≡ length vs
count_long [] = refl
count_long (v ∷ vs) = let l = count_long vs in omega arith

pub short_over : (e : BundleFault) (most : Option ℕ) (vs : List Value) → is_over most (length vs) ≡ true → IsFault e (here TooMany) → Stops e (short most (items_view vs))
short_over e most vs over h = rw (count_long vs, over) (fault_stops e (here TooMany) h)

pub short_fine : (most : Option ℕ) (vs : List Value) → is_over most (length vs) ≡ false → short most (items_view vs) ≡ Ok (items_view vs)
short_fine most vs fine = rw (count_long vs, fine) refl

-- ---- items

-- what was read before, and the rest
abbrev pub prefixed : {A : Type 0} → List A → Result (List A) Fault → Result (List A) Fault
prefixed xs (Ok ys) = Ok (xs ++ ys)
prefixed xs (Err f) = Err f

pub prefixed_none : {A : Type 0} (r : Result (List A) Fault) → prefixed [] r ≡ r
prefixed_none (Ok ys) = refl
prefixed_none (Err f) = refl

prefixed_more : {A : Type 0} (xs : List A) (a : A) (r : Result (List A) Fault) → prefixed xs (r >>= (λ rest. Ok (a ∷ rest))) ≡ prefixed (xs ++ a ∷ []) r
prefixed_more xs a (Ok ys) = ap Ok (sym (append_assoc xs (a ∷ []) ys))
prefixed_more xs a (Err f) = refl

prefixed_stops : {A : Type 0} (e : BundleFault) (xs : List A) (r : Result (List A) Fault) → Stops e r → Stops e (prefixed xs r)
prefixed_stops e xs r h = record { by = λ f is. ap (prefixed xs) (h.by f is) }

split : (vs : List Value) (i : ℕ) (v : Value) → i < length vs → v ≡ get_or vs i v → items_view (drop i vs) ≡ item (view v) (items_view (drop (i + 1) vs))
split vs i v h is = ap items_view (drop-cons vs i v h ∙ ap (λ x. x ∷ drop (suc i) vs) (sym is)) ∙ ap (λ n. item (view v) (items_view (drop n vs))) (sym (add-one i))

pub each_more : {A : Type 0} (read : Data → Result A Fault) (i : ℕ) (vs : List Value) (v : Value) (a : A) (all : List A) → i < length vs → v ≡ get_or vs i v → read (view v) ≡ Ok a
    → prefixed all (each read i (items_view (drop i vs))) ≡ prefixed (all ++ a ∷ []) (each read (i + 1) (items_view (drop (i + 1) vs)))
each_more read i vs v a all h is ok =
    ap (λ ds. prefixed all (each read i ds)) (split vs i v h is)
    ∙ ap (λ r. prefixed all (within (item_name i) r >>= (λ a. each read (i + 1) (items_view (drop (i + 1) vs)) >>= (λ rest. Ok (a ∷ rest))))) ok
    ∙ prefixed_more all a (each read (i + 1) (items_view (drop (i + 1) vs)))

pub each_stops : {A : Type 0} (read : Data → Result A Fault) (i : ℕ) (vs : List Value) (v : Value) (all : List A) (e : BundleFault) → i < length vs → v ≡ get_or vs i v
    → Stops e (within (item_name i) (read (view v))) → Stops e (prefixed all (each read i (items_view (drop i vs))))
each_stops read i vs v all e h is stops =
    prefixed_stops e all _ (rw (split vs i v h is) (then_stops e (within (item_name i) (read (view v))) _ stops))

-- ---- keys

pub has_texts : (ks : List (Bor (List ℕ))) (k : List ℕ) → list_any (λ one. bytes_eq one.now k) ks ≡ has (texts ks) k
has_texts [] k = refl
has_texts (one ∷ ks) k = ap (λ b. bytes_eq one.now k || b) (has_texts ks k)

abbrev pub Entry : Type 0
Entry = String Global × Value

pub unknown_here : (keys : List (List ℕ)) (e : Entry) (es : List Entry) → has keys (string_bytes e.0) ≡ false → unknown_key keys (members_view (e ∷ es)) ≡ Some (string_bytes e.0)
unknown_here keys e es h = ap (λ b. cond b (unknown_key keys (members_view es)) (Some (string_bytes e.0))) h

pub unknown_later : (keys : List (List ℕ)) (e : Entry) (es : List Entry) → has keys (string_bytes e.0) ≡ true → unknown_key keys (members_view (e ∷ es)) ≡ unknown_key keys (members_view es)
unknown_later keys e es h = ap (λ b. cond b (unknown_key keys (members_view es)) (Some (string_bytes e.0))) h

-- ---- users and tenants

pub filled_some : (vs : List Value) → eqb (length vs) 0 ≡ false → filled (items_view vs) ≡ Ok (items_view vs)
filled_some [] h = absurd (cc)
filled_some (v ∷ vs) h = refl

pub tenant_more : (earlier : List (List ℕ)) (i : ℕ) (vs : List Value) (v : Value) (t : TenantPlan) (all : List TenantPlan) → i < length vs → v ≡ get_or vs i v → tenant earlier (view v) ≡ Ok t
    → prefixed all (each_tenant earlier i (items_view (drop i vs))) ≡ prefixed (all ++ t ∷ []) (each_tenant (earlier ++ t.name ∷ []) (i + 1) (items_view (drop (i + 1) vs)))
tenant_more earlier i vs v t all h is ok =
    ap (λ ds. prefixed all (each_tenant earlier i ds)) (split vs i v h is)
    ∙ ap (λ r. prefixed all (within (item_name i) r >>= (λ (t : TenantPlan). each_tenant (earlier ++ t.name ∷ []) (i + 1) (items_view (drop (i + 1) vs)) >>= (λ rest. Ok (t ∷ rest))))) ok
    ∙ prefixed_more all t (each_tenant (earlier ++ t.name ∷ []) (i + 1) (items_view (drop (i + 1) vs)))

pub tenant_stops : (earlier : List (List ℕ)) (i : ℕ) (vs : List Value) (v : Value) (all : List TenantPlan) (e : BundleFault) → i < length vs → v ≡ get_or vs i v
    → Stops e (within (item_name i) (tenant earlier (view v))) → Stops e (prefixed all (each_tenant earlier i (items_view (drop i vs))))
tenant_stops earlier i vs v all e h is stops =
    prefixed_stops e all _ (rw (split vs i v h is) (then_stops e (within (item_name i) (tenant earlier (view v))) _ stops))
