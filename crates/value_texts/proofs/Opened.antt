-- Collections that are open.
use Rattle.std.proofs.Common.{◌≡◌, ℕ, suc, ◌+◌, ◌-◌, ◌<◌, ◌≤◌, eqb, List, [], ◌∷◌, ◌++◌, length, get_or, Some, Result, Ok, Err, sym, ap, subst, ◌∙◌, arith, append_assoc, append-nil, length-append}
use Rattle.std.specs.Prelude.{string_bytes, slice_get, IsErr, IsErrAnd}
use Rattle.apex_num.specs.declared.kind.LimitKind.TheVariants.{Alloc}
use Rattle.apex_schema.specs.declared.schema.Schema.{Schema}
use Rattle.limit_meter.specs.Charges.{limit_of}
use Rattle.txn_heap.specs.declared.thing.Ref.{Ref}
use Rattle.txn_heap.specs.declared.thing.Thing.{Thing}
use Rattle.txn_heap.specs.declared.thing.Value.{Value}
use Rattle.txn_heap.specs.declared.thing.Value.TheVariants.{Object}
use Rattle.value_texts.specs.declared.line.Line.{Line}
use Rattle.value_texts.specs.declared.line.TextEnd.{TextEnd}
use Rattle.value_texts.specs.declared.line.TextEnd.TheVariants.{TooLong, NoMemory}
use Rattle.value_texts.specs.declared.walk.Rest.{Rest}
use Rattle.value_texts.specs.declared.walk.Scene.{Scene}
use Rattle.value_texts.specs.Texts.{text_of, text_within, thing_text}
use Rattle.value_texts.specs.Pieces.{Done, Stops, Tells, Begun, Opens, Walks, Comes, comma, item_texts, rest_of, seen_at, pends, effort}
use Rattle.value_texts.proofs.Items.{rest_next}
use Rattle.value_texts.proofs.Joined.{long_front}

-- a text that opens nothing
pub told_opens : {A : Type 0} (pend : List Rest → List ℕ) (text : List ℕ) (old new : Line) (stack : List Rest) (r : Result A TextEnd) → Tells text old new r → Opens pend text old stack new stack r
told_opens pend text old new stack (Ok u) h = (
  ap (λ x. x ++ pend stack) h.0 ∙ append_assoc (string_bytes old.text) text (pend stack),
  let l = ap length h.0 ∙ length-append (string_bytes old.text) text in let b = h.1 in omega arith,
)
told_opens pend text old new stack (Err TooLong) h = h
told_opens pend text old new stack (Err NoMemory) h = tt

less_left : (a b : ℕ) (stack : List Rest) → a ≤ b → effort a stack ≤ effort b stack
less_left a b [] le = omega arith
less_left a b (r ∷ rs) le = omega arith

pub told : {A : Type 0} (scene : Scene) (text : List ℕ) (old new : Line) (stack : List Rest) (r : Result A TextEnd) → Tells text old new r → Walks scene text old stack new stack r
told scene text old new stack (Ok u) h = (
  told_opens (pends scene) text old new stack (Ok u) h,
  let l = ap length h.0 ∙ length-append (string_bytes old.text) text in omega arith,
  let b = h.1 in less_left new.left old.left stack (omega arith),
)
told scene text old new stack (Err TooLong) h = (h, tt, tt)
told scene text old new stack (Err NoMemory) h = (tt, tt, tt)

-- a text before it
pub opens_behind : {B : Type 0} (pend : List Rest → List ℕ) (a t : List ℕ) (old mid new : Line) (stack open' : List Rest) (r : Result B TextEnd) → Done a old mid → Opens pend t mid stack new open' r → Opens pend (a ++ t) old stack new open' r
opens_behind pend a t old mid new stack open' (Ok done) h k = (
  k.0 ∙ ap (λ x. x ++ (t ++ pend stack)) h.0 ∙ append_assoc (string_bytes old.text) a (t ++ pend stack) ∙ ap (λ x. string_bytes old.text ++ x) (sym (append_assoc a t (pend stack))),
  let l = ap length h.0 ∙ length-append (string_bytes old.text) a in let b = h.1 in let c = k.1 in omega arith,
)
opens_behind pend a t old mid new stack open' (Err TooLong) h k = let l = length-append a t in let b = h.1 in omega arith
opens_behind pend a t old mid new stack open' (Err NoMemory) h k = tt

pub behind : {B : Type 0} (scene : Scene) (a t : List ℕ) (old mid new : Line) (stack open' : List Rest) (r : Result B TextEnd) → Done a old mid → Walks scene t mid stack new open' r → Walks scene (a ++ t) old stack new open' r
behind {B = B} scene a t old mid new stack open' (Ok done) h k = (
  opens_behind {B = B} (pends scene) a t old mid new stack open' (Ok done) h k.0,
  let l = ap length h.0 ∙ length-append (string_bytes old.text) a in let c = k.1 in omega arith,
  let b = h.1 in let f = less_left mid.left old.left stack (omega arith) in let g = k.2 in omega arith,
)
behind {B = B} scene a t old mid new stack open' (Err TooLong) h k = (opens_behind {B = B} (pends scene) a t old mid new stack open' (Err TooLong) h k.0, tt, tt)
behind scene a t old mid new stack open' (Err NoMemory) h k = (tt, tt, tt)

pub opens_stopped : {B : Type 0} (pend : List Rest → List ℕ) (a t whole : List ℕ) (old new : Line) (stack open' : List Rest) (e : TextEnd) (res : Result B TextEnd) → IsErr res × IsErrAnd res (λ x. x ≡ e) → Stops a old e → whole ≡ a ++ t → Opens pend whole old stack new open' res
opens_stopped pend a t whole old new stack open' e (Ok done) r h w = absurd r.1
opens_stopped pend a t whole old new stack open' e (Err TooLong) r h w = subst (λ x. old.left < length x) (sym w) (long_front old.left a t (subst (λ y. Stops a old y) (sym r.1) h))
opens_stopped pend a t whole old new stack open' e (Err NoMemory) r h w = tt

-- ---- the whole walk

pub first_text : (scene : Scene) (v : Value) (stack : List Rest) → stack ≡ [] → seen_at scene (length stack) v ≡ text_of scene.schema.now scene.classes.now scene.heap.now v
first_text scene v stack e = ap (λ s. seen_at scene (length s) v) e

pub comes_stopped : {B : Type 0} (bytes : B → List ℕ) (text whole : List ℕ) (old : Line) (e : TextEnd) (res : Result B TextEnd) → IsErr res × IsErrAnd res (λ x. x ≡ e) → text ≡ whole → Stops text old e → Comes bytes old.left whole res
comes_stopped bytes text whole old e (Ok done) r t h = absurd r.1
comes_stopped bytes text whole old e (Err TooLong) r t h = subst (λ x. old.left < length x) t (subst (λ y. Stops text old y) (sym r.1) h)
comes_stopped bytes text whole old e (Err NoMemory) r t h = tt

pub walk_begun : (scene : Scene) (text whole : List ℕ) (old new : Line) (stack open' : List Rest) → string_bytes old.text ≡ [] → stack ≡ [] → text ≡ whole → Begun (pends scene) text old stack new open' →
    length open' + length (string_bytes old.text) ≤ length stack + length (string_bytes new.text) → (string_bytes new.text ++ pends scene open' ≡ whole) × (new.left + length (string_bytes new.text) ≡ old.left) × (length open' ≤ length (string_bytes new.text))
walk_begun scene text whole old new stack open' b s t h high =
    let none = ap length b in
    let room = h.1 in
    let low = ap length s in
    (h.0 ∙ ap (λ x. x ++ (text ++ pends scene stack)) b ∙ ap (λ x. text ++ pends scene x) s ∙ append-nil text ∙ t, omega arith, omega arith)

-- a collection on the stack, with what is still to come of it
pub opens_pushed : {A : Type 0} (pend : List Rest → List ℕ) (item behind' : List ℕ) (old new : Line) (r : Rest) (stack open' : List Rest) (res : Result A TextEnd) → pend (r ∷ stack) ≡ behind' ++ pend stack → Opens pend item old (r ∷ stack) new open' res →
    Opens pend (item ++ behind') old stack new open' res
opens_pushed pend item behind' old new r stack open' (Ok done) e k = (k.0 ∙ ap (λ x. string_bytes old.text ++ (item ++ x)) e ∙ ap (λ x. string_bytes old.text ++ x) (sym (append_assoc item behind' (pend stack))), k.1)
opens_pushed pend item behind' old new r stack open' (Err TooLong) e k = long_front old.left item behind' k
opens_pushed pend item behind' old new r stack open' (Err NoMemory) e k = tt

-- ---- the text of a thing in so many open collections

within : (n h : ℕ) (schema : Schema) (classes : List (List ℕ)) (heap : List Thing) (r : Ref) → h < n → thing_text (text_within (n - suc h) schema classes heap) schema classes (slice_get heap r.place) ≡ text_within (n - h) schema classes heap (Object r)
within n h schema classes heap r lt = let e : n - h ≡ suc (n - suc h) = omega arith in sym (ap (λ k. text_within k schema classes heap (Object r)) e)

pub thing_at : (scene : Scene) (h : ℕ) (r : Ref) (v : Value) → h < limit_of Alloc → v ≡ Object r →
    thing_text (seen_at scene (suc h)) scene.schema.now scene.classes.now (slice_get scene.heap.now r.place) ≡ seen_at scene h v
thing_at scene h r v lt e = within (limit_of Alloc) h scene.schema.now scene.classes.now scene.heap.now r lt ∙ ap (λ x. seen_at scene h x) (sym e)

-- the next item, with the comma before it
pub next_opens : {B : Type 0} (scene : Scene) (place next : ℕ) (thing : Thing) (old mid new : Line) (stack pushed open' : List Rest) (r : Result B TextEnd) → slice_get scene.heap.now place ≡ Some thing →
    next < length (item_texts (seen_at scene (suc (length stack))) thing) → pushed ≡ record { place = place; next = next + 1 } ∷ stack → Done (comma (eqb next 0)) old mid →
    Opens (pends scene) (get_or (item_texts (seen_at scene (length pushed)) thing) next []) mid pushed new open' r → Opens (pends scene) (rest_of (seen_at scene (suc (length stack))) next (Some thing)) old stack new open' r
next_opens scene place next thing old mid new stack pushed open' r there lt p h k =
    let text = seen_at scene (suc (length stack)) in
    let item = get_or (item_texts text thing) next [] in
    let one : Rest = record { place = place; next = next + 1 } in
    let k1 : Opens (pends scene) item mid (one ∷ stack) new open' r = subst (λ s. Opens (pends scene) (get_or (item_texts (seen_at scene (length s)) thing) next []) mid s new open' r) p k in
    let more : pends scene (one ∷ stack) ≡ rest_of text (next + 1) (Some thing) ++ pends scene stack = ap (λ o. rest_of text (next + 1) o ++ pends scene stack) there in
    let k2 = opens_pushed (pends scene) item (rest_of text (next + 1) (Some thing)) mid new one stack open' r more k1 in
    subst (λ x. Opens (pends scene) x old stack new open' r) (sym (rest_next text next thing lt))
    (opens_behind (pends scene) (comma (eqb next 0)) (item ++ rest_of text (next + 1) (Some thing)) old mid new stack open' r h k2)
