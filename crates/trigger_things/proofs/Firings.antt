-- All things of a firing, one part behind the other.
use Rattle.std.proofs.Common.{◌≡◌, ℕ, ◌+◌, Bool, not, List, [], ◌∷◌, ◌++◌, length, refl, ap, sym, ◌∙◌, append_assoc, length-append, arith}
use Rattle.apex_num.specs.declared.cell.Cell.{Cell}
use Rattle.apex_num.specs.declared.cell.Cell.TheVariants as C
use Rattle.apex_requests.specs.declared.request.Context.{Context}
use Rattle.apex_requests.specs.declared.request.Op.{Op}
use Rattle.apex_rows.specs.declared.row.Row.{Row}
use Rattle.heap_methods.specs.Operands.{count, truth}
use Rattle.txn_heap.specs.Words.{with_entries}
use Rattle.txn_heap.specs.declared.thing.Guard.{Guard}
use Rattle.txn_heap.specs.declared.thing.Thing.{Thing}
use Rattle.txn_heap.specs.declared.thing.Thing.TheVariants as T
use Rattle.txn_heap.specs.declared.thing.Value.{Value}
use Rattle.trigger_things.specs.Collected.{IsCollected, list_of_news, list_of_olds, map_of_news, map_of_olds}
use Rattle.trigger_things.specs.Things
use Rattle.trigger_things.specs.Things.{at_if, by_id, fixed_if, has_new, has_new_map, has_old, is_delete, is_insert, is_update, listed_from, new_guard, old_guard, own_rows, records, this_place, things}
use Rattle.trigger_things.specs.declared.records.Made.{Made}

behind : (xs ys : List Thing) (n : ℕ) (zs : List Thing) → length xs ≡ n → zs ≡ xs ++ ys → length zs ≡ n + length ys
behind xs ys n zs e is = ap length is ∙ length-append xs ys ∙ ap (λ m. m + length ys) e

pub if_there : (was is : Bool) (heap after : List Thing) (thing : Thing) → was ≡ is → after ≡ heap ++ fixed_if was thing → after ≡ heap ++ fixed_if is thing
if_there was is heap after thing same e = e ∙ ap (λ b. heap ++ fixed_if b thing) same

pub at_there : (was is : Bool) (n : ℕ) (v : Value) → was ≡ is → v ≡ at_if was n → v ≡ at_if is n
at_there was is n v same e = e ∙ ap (λ b. at_if b n) same

pub guarded_by : (was is : Guard) (heap after : List Thing) (rows : List Row) → was ≡ is → after ≡ heap ++ records was rows → after ≡ heap ++ records is rows
guarded_by was is heap after rows same e = e ∙ ap (λ (g : Guard). heap ++ records g rows) same

-- the lists and maps stand one behind the other
pub collected : (op : Op) (before : Bool) (news olds : Made) (h0 h1 h2 h3 h4 : List Thing) (v1 v2 v3 v4 : Value) (vs : List Value) →
    h1 ≡ h0 ++ list_of_news op before news olds → v1 ≡ at_if (has_new op) (length h0) →
    h2 ≡ h1 ++ list_of_olds op before news olds → v2 ≡ at_if (has_old op) (length h1) →
    h3 ≡ h2 ++ map_of_news op before news olds → v3 ≡ at_if (has_new_map op before) (length h2) →
    h4 ≡ h3 ++ map_of_olds op before news olds → v4 ≡ at_if (has_old op) (length h3) →
    vs ≡ v1 ∷ v2 ∷ v3 ∷ v4 ∷ [] → IsCollected op before news olds h0 h4 vs
collected op before news olds h0 h1 h2 h3 h4 v1 v2 v3 v4 vs is1 at1 is2 at2 is3 at3 is4 at4 are =
    let a : List Thing = list_of_news op before news olds in
    let b : List Thing = list_of_olds op before news olds in
    let m : List Thing = map_of_news op before news olds in
    let o : List Thing = map_of_olds op before news olds in
    let n1 : length h1 ≡ length h0 + length a = behind h0 a (length h0) h1 refl is1 in
    let n2 : length h2 ≡ length h0 + length a + length b = behind h1 b _ h2 n1 is2 in
    let n3 : length h3 ≡ length h0 + length a + length b + length m = behind h2 m _ h3 n2 is3 in
    record {
      things =
          is4 ∙ ap (λ (ts : List Thing). ts ++ o) (is3 ∙ ap (λ (ts : List Thing). ts ++ m) (is2 ∙ ap (λ (ts : List Thing). ts ++ b) is1))
          ∙ append_assoc ((h0 ++ a) ++ b) m o ∙ append_assoc (h0 ++ a) b (m ++ o) ∙ append_assoc h0 a (b ++ (m ++ o));
      names =
          are
          ∙ ap (λ (v : Value). v ∷ v2 ∷ v3 ∷ v4 ∷ []) at1
          ∙ ap (λ (v : Value). at_if (has_new op) (length h0) ∷ v ∷ v3 ∷ v4 ∷ []) (at2 ∙ ap (at_if (has_old op)) n1)
          ∙ ap (λ (v : Value). at_if (has_new op) (length h0) ∷ at_if (has_old op) (length h0 + length a) ∷ v ∷ v4 ∷ []) (at3 ∙ ap (at_if (has_new_map op before)) n2)
          ∙ ap (λ (v : Value). at_if (has_new op) (length h0) ∷ at_if (has_old op) (length h0 + length a) ∷ at_if (has_new_map op before) (length h0 + length a + length b) ∷ v ∷ []) (at4 ∙ ap (at_if (has_old op)) n3);
    }

-- the names of lists and maps that stand behind a place
abbrev names_at : Op → Bool → ℕ → List Thing → List Thing → List Thing → List Value
names_at op before p a b m = at_if (has_new op) p ∷ at_if (has_old op) (p + length a) ∷ at_if (has_new_map op before) (p + length a + length b) ∷ at_if (has_old op) (p + length a + length b + length m) ∷ []

one_behind_other : (h0 x y a b m o z h1 h2 h3 : List Thing) → h1 ≡ h0 ++ x → h2 ≡ h1 ++ y → h3 ≡ h2 ++ (a ++ (b ++ (m ++ o))) → h3 ++ z ≡ h0 ++ (x ++ (y ++ (a ++ (b ++ (m ++ (o ++ z))))))
one_behind_other h0 x y a b m o z h1 h2 h3 is1 is2 is3 =
    ap (λ (ts : List Thing). ts ++ z) (is3 ∙ ap (λ (ts : List Thing). ts ++ (a ++ (b ++ (m ++ o)))) (is2 ∙ ap (λ (ts : List Thing). ts ++ y) is1)) ∙ simp append_assoc

length_behind : (h2 a b m o : List Thing) (n : ℕ) (h3 : List Thing) → length h2 ≡ n → h3 ≡ h2 ++ (a ++ (b ++ (m ++ o))) → length h3 ≡ n + length a + length b + length m + length o
length_behind h2 a b m o n h3 e is =
    let whole : length h3 ≡ length h2 + length (a ++ (b ++ (m ++ o))) = ap length is ∙ length-append h2 (a ++ (b ++ (m ++ o))) in
    omega (arith, whole, e, length-append a (b ++ (m ++ o)), length-append b (m ++ o), length-append m o)

-- all that was made for a context behind a heap
pub all_made : (c : Context) (heap h1 h2 h3 : List Thing) (news olds : Made) (names variables : List Value) (size : ℕ) →
    h1 ≡ heap ++ records (new_guard c.before) c.news → news.list ≡ listed_from (length heap) c.news → news.by_id ≡ by_id (length heap) c.news →
    h2 ≡ h1 ++ records (old_guard c.op) c.olds → olds.list ≡ listed_from (length h1) c.olds → olds.by_id ≡ by_id (length h1) c.olds →
    IsCollected c.op c.before news olds h2 h3 names →
    variables ≡ names ++ (truth (is_insert c.op) ∷ truth (is_update c.op) ∷ truth (is_delete c.op) ∷ truth c.before ∷ truth (not c.before) ∷ count size ∷ []) →
    size ≡ length (own_rows c) →
    (h3 ++ T.Instance (record { class = 0; message = C.Null; fields = variables }) ∷ [] ≡ heap ++ things (length heap) c) × (length h3 ≡ this_place (length heap) c)
all_made c heap h1 h2 h3 news olds names variables size is1 list1 map1 is2 list2 map2 made adds sized =
    let p : ℕ = length heap in
    let a : List Thing = Things.new_list p c in
    let b : List Thing = Things.old_list p c in
    let m : List Thing = Things.new_map p c in
    let o : List Thing = Things.old_map p c in
    let n1 : length h1 ≡ Things.old_place p c = behind heap (records (new_guard c.before) c.news) p h1 refl is1 in
    let n2 : length h2 ≡ Things.new_list_place p c = behind h1 (records (old_guard c.op) c.olds) (Things.old_place p c) h2 n1 is2 in
    let ea : list_of_news c.op c.before news olds ≡ a = ap (λ (vs : List Value). fixed_if (has_new c.op) (T.List vs)) list1 in
    let eb : list_of_olds c.op c.before news olds ≡ b = ap (λ (vs : List Value). fixed_if (has_old c.op) (T.List vs)) (list2 ∙ ap (λ n. listed_from n c.olds) n1) in
    let em : map_of_news c.op c.before news olds ≡ m = ap (λ (es : List (Cell × Value)). fixed_if (has_new_map c.op c.before) (T.Map (with_entries [] es))) map1 in
    let eo : map_of_olds c.op c.before news olds ≡ o = ap (λ (es : List (Cell × Value)). fixed_if (has_old c.op) (T.Map (with_entries [] es))) (map2 ∙ ap (λ n. by_id n c.olds) n1) in
    let is3 : h3 ≡ h2 ++ (a ++ (b ++ (m ++ o))) =
    made.things
    ∙ ap (λ (ts : List Thing). h2 ++ (ts ++ (list_of_olds c.op c.before news olds ++ (map_of_news c.op c.before news olds ++ map_of_olds c.op c.before news olds)))) ea
    ∙ ap (λ (ts : List Thing). h2 ++ (a ++ (ts ++ (map_of_news c.op c.before news olds ++ map_of_olds c.op c.before news olds)))) eb
    ∙ ap (λ (ts : List Thing). h2 ++ (a ++ (b ++ (ts ++ map_of_olds c.op c.before news olds)))) em
    ∙ ap (λ (ts : List Thing). h2 ++ (a ++ (b ++ (m ++ ts)))) eo in
    let named : names ≡ at_if (has_new c.op) (Things.new_list_place p c) ∷ at_if (has_old c.op) (Things.old_list_place p c) ∷ at_if (has_new_map c.op c.before) (Things.new_map_place p c) ∷ at_if (has_old c.op) (Things.old_map_place p c) ∷ [] =
    made.names
    ∙ ap (λ n. names_at c.op c.before n (list_of_news c.op c.before news olds) (list_of_olds c.op c.before news olds) (map_of_news c.op c.before news olds)) n2
    ∙ ap (λ (ts : List Thing). names_at c.op c.before (Things.new_list_place p c) ts (list_of_olds c.op c.before news olds) (map_of_news c.op c.before news olds)) ea
    ∙ ap (λ (ts : List Thing). names_at c.op c.before (Things.new_list_place p c) a ts (map_of_news c.op c.before news olds)) eb
    ∙ ap (λ (ts : List Thing). names_at c.op c.before (Things.new_list_place p c) a b ts) em in
    let varied : variables ≡ Things.variables p c =
    adds
    ∙ ap (λ (vs : List Value). vs ++ (truth (is_insert c.op) ∷ truth (is_update c.op) ∷ truth (is_delete c.op) ∷ truth c.before ∷ truth (not c.before) ∷ count size ∷ [])) named
    ∙ ap (λ n. at_if (has_new c.op) (Things.new_list_place p c) ∷ at_if (has_old c.op) (Things.old_list_place p c) ∷ at_if (has_new_map c.op c.before) (Things.new_map_place p c) ∷ at_if (has_old c.op) (Things.old_map_place p c)
    ∷ truth (is_insert c.op) ∷ truth (is_update c.op) ∷ truth (is_delete c.op) ∷ truth c.before ∷ truth (not c.before) ∷ count n ∷ []) sized in (
      ap (λ (vs : List Value). h3 ++ T.Instance (record { class = 0; message = C.Null; fields = vs }) ∷ []) varied
          ∙ one_behind_other heap (records (new_guard c.before) c.news) (records (old_guard c.op) c.olds) a b m o (Things.this_thing p c ∷ []) h1 h2 h3 is1 is2 is3,
      length_behind h2 a b m o (Things.new_list_place p c) h3 n2 is3,
    )
