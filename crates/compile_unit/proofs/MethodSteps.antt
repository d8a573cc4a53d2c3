-- Methods by their keys, method by method and class by class.
use Rattle.std.specs.Prelude.{◌≡◌, ℕ, zero, suc, ◌+◌, ◌<◌, ◌&&◌, not, bytes_eq, eqb, cond, Bool, true, false, List, [], ◌∷◌, ◌++◌, take, get_or, length, slice_get, Option, None, Some, option_map}
use Rattle.std.proofs.Common.{refl, sym, ap, ◌∙◌, arith, length-take}
use Rattle.std.proofs.lemmas.List.{take_more}
use Rattle.indexmap.specs.IndexMap.{IndexMap, get}
use Rattle.apex_meaning.specs.Classes.{class_at, found_from, if_there, in_class, meets, methods_of, nearest}
use Rattle.stack_code.specs.Images.{method_at}
use Rattle.stack_code.specs.declared.image.MethodAt.{MethodAt}
use Rattle.typed_program.specs.declared.program.Program.{Program}
use Rattle.typed_program.specs.declared.unit.TypedClass.{TypedClass}
use Rattle.typed_program.specs.declared.unit.TypedMethod.{TypedMethod}
use Rattle.compile_unit.specs.declared.tables.MethodKey.{MethodKey}
use Rattle.compile_unit.specs.Keys.{at_or, is_found, kept, key_eq, key_of, nearest_by, place_among, place_from, place_in, place_of, target_in}

-- ---- methods

behind : (b : Bool) (n : ℕ) (p q : Option ℕ) (found : Bool) (j : ℕ) → q ≡ kept p found j → cond b (Some n) q ≡ kept (cond b (Some n) p) found j
behind true n p q found j e = refl
behind false n p q found j e = e

append_method : (n j : ℕ) (ms : List TypedMethod) (m : TypedMethod) (k : MethodKey) → j ≡ n + length ms → place_from n k (ms ++ m ∷ []) ≡ kept (place_from n k ms) (is_found k m) j
append_method n j [] m k e = ap (λ i. cond (is_found k m) (Some i) None) (let g : n ≡ j = omega arith in g)
append_method n j (x ∷ ms) m k e =
    behind (is_found k x) n (place_from (suc n) k ms) (place_from (suc n) k (ms ++ m ∷ [])) (is_found k m) j (append_method (suc n) j ms m k (omega arith))

pub one_method_more : (ms : List TypedMethod) (i : ℕ) (m : TypedMethod) (k : MethodKey) → i < length ms → m ≡ get_or ms i m → place_of k (take (i + 1) ms) ≡ kept (place_of k (take i ms)) (is_found k m) i
one_method_more ms i m k h e =
    ap (λ l. place_from 0 k l) (take_more ms i m h ∙ ap (λ y. take i ms ++ y ∷ []) (sym e)) ∙ append_method 0 i (take i ms) m k (let l = length-take i ms in omega arith)

pub kept_none : (p : Option ℕ) (i : ℕ) → p ≡ kept p false i
kept_none None i = refl
kept_none (Some n) i = refl

-- ---- classes

one_more : {S : Type 0} (ms : List (IndexMap MethodKey ℕ S)) (cs : List TypedClass) (m : IndexMap MethodKey ℕ S) (c : TypedClass) (k : MethodKey) → length ms ≡ length cs → ((d : ℕ) → place_in (slice_get ms d) k ≡ place_among cs d k) → get key_eq m k ≡ place_of k c.methods → (d : ℕ) → place_in (slice_get (ms ++ m ∷ []) d) k ≡ place_among (cs ++ c ∷ []) d k
one_more [] [] m c k l h e zero = e
one_more [] [] m c k l h e (suc d) = refl
one_more [] (b ∷ cs) m c k l h e d = absurd (omega arith)
one_more (a ∷ ms) [] m c k l h e d = absurd (omega arith)
one_more (a ∷ ms) (b ∷ cs) m c k l h e zero = h zero
one_more (a ∷ ms) (b ∷ cs) m c k l h e (suc d) = one_more ms cs m c k (omega arith) (λ j. h (suc j)) e d

pub one_class_more : {S : Type 0} (xs after : List (IndexMap MethodKey ℕ S)) (ys all : List TypedClass) (m : IndexMap MethodKey ℕ S) (c : TypedClass) (i : ℕ) (k : MethodKey) → ys ≡ all → i < length ys → c ≡ get_or ys i c → after ≡ xs ++ m ∷ [] → length xs ≡ i
    → ((d : ℕ) → place_in (slice_get xs d) k ≡ place_among (take i all) d k) → get key_eq m k ≡ place_of k c.methods → (d : ℕ) → place_in (slice_get after d) k ≡ place_among (take (i + 1) all) d k
one_class_more xs after ys all m c i k s h is new l same e d =
    let long = length-take i ys in
    let size : length xs ≡ length (take i ys) = omega arith in
    let next : take (i + 1) ys ≡ take i ys ++ c ∷ [] = take_more ys i c h ∙ ap (λ z. take i ys ++ z ∷ []) (sym is) in
    let before : (j : ℕ) → place_in (slice_get xs j) k ≡ place_among (take i ys) j k = λ j. same j ∙ ap (λ l. place_among (take i l) j k) (sym s) in
    ap (λ l. place_in (slice_get l d) k) new ∙ one_more xs (take i ys) m c k size before e d ∙ ap (λ l. place_among l d k) (sym next) ∙ ap (λ l. place_among (take (i + 1) l) d k) s

-- ---- the nearest one

if_is : (b : Bool) (n : ℕ) (later : Option ℕ) → if_there b n later ≡ cond b (Some n) later
if_is true n later = refl
if_is false n later = refl

and_same : (a b c : Bool) → (a && b) && c ≡ a && (b && c)
and_same true b c = refl
and_same false b c = refl

found_same : (n : ℕ) (wanted : TypedMethod) (ms : List TypedMethod) → found_from n wanted ms ≡ place_from n (key_of wanted) ms
found_same n wanted [] = refl
found_same n wanted (m ∷ ms) =
    if_is (meets wanted m) n (found_from (suc n) wanted ms)
    ∙ ap (λ (b : Bool). cond b (Some n) (found_from (suc n) wanted ms)) (and_same (not m.is_static) (bytes_eq m.name wanted.name) (eqb m.params wanted.params))
    ∙ ap (λ p. cond (is_found (key_of wanted) m) (Some n) p) (found_same (suc n) wanted ms)

step : (c : ℕ) (p q : Option ℕ) (later : Option (ℕ × ℕ)) (others : Option MethodAt) → p ≡ q → option_map method_at later ≡ others → option_map method_at (in_class c p later) ≡ at_or c q others
step c (Some n) q later others e h = ap (λ p. at_or c p others) e
step c None q later others e h = h ∙ ap (λ p. at_or c p others) e

pub nearest_same : (program : Program) (m : TypedMethod) (cs : List ℕ) → target_in program cs m ≡ nearest_by program (key_of m) cs
nearest_same program m [] = refl
nearest_same program m (c ∷ cs) =
    step c (found_from 0 m (methods_of (class_at program c))) (place_among program.classes c (key_of m)) (nearest program m cs) (nearest_by program (key_of m) cs)
    (found_same 0 m (methods_of (class_at program c))) (nearest_same program m cs)
