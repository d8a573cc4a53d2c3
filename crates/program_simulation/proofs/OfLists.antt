-- Several values, one behind the other.
use Rattle.std.proofs.Common.{◌≡◌, ℕ, suc, ◌+◌, List, [], ◌∷◌, ◌++◌, length, refl, sym, ap, ◌∙◌, append-nil, zero-add, arith}
use Rattle.request_states.specs.Expressions.{all_pairs}
use Rattle.request_states.specs.States.{State}
use Rattle.apex_rows.specs.declared.query.Answer.{Answer}
use Rattle.apex_meaning.specs.Expressions.{Entry, all_entries}
use Rattle.apex_meaning.specs.Meanings.{Run, all_of}
use Rattle.save_meaning.proofs.Holding.{bound, weaken}
use Rattle.save_meaning.specs.Results.{Gives, bind, Holds}
use Rattle.save_meaning.specs.Sites.{Site}
use Rattle.tenant_trails.specs.Runs as Trail
use Rattle.txn_heap.specs.declared.thing.Value.{Value}
use Rattle.stack_code.specs.Code.{joined, pairs_code, fields_of}
use Rattle.stack_code.specs.Machine.{Next, taken, on_taken}
use Rattle.stack_code.specs.Things.{pairs_of, paired}
use Rattle.stack_code.specs.declared.code.Instr.{Instr}
use Rattle.stack_code.specs.declared.image.Image.{Image}
use Rattle.stack_code.specs.declared.state.Config.{Config}
use Rattle.program_simulation.proofs.Simulates as Sim
use Rattle.program_simulation.proofs.Simulates.{Around}

-- ---- on the operand stack

-- the last one on top
abbrev pub pushed : List Value → List Value → List Value
pushed [] temps = temps
pushed (v ∷ vs) temps = pushed vs (v ∷ temps)

taken_more : (vs temps acc : List Value) (m : ℕ) → taken (length vs + m) (pushed vs temps) acc ≡ taken m temps (vs ++ acc)
taken_more [] temps acc m = ap (λ n. taken n temps acc) (zero-add m)
taken_more (v ∷ vs) temps acc m =
    let e : length (v ∷ vs) + m ≡ length vs + suc m = omega arith in ap (λ n. taken n (pushed vs (v ∷ temps)) acc) e ∙ taken_more vs (v ∷ temps) acc (suc m)

pub taken_all : (vs temps : List Value) → taken (length vs) (pushed vs temps) [] ≡ (vs, temps)
taken_all vs temps =
    let e : length vs ≡ length vs + 0 = omega arith in ap (λ n. taken n (pushed vs temps) []) e ∙ taken_more vs temps [] 0 ∙ ap (λ xs. (xs, temps)) (append-nil vs)

pub on_taken_all : (n : ℕ) (vs temps : List Value) (go : List Value → List Value → Next) → length vs ≡ n → on_taken n (pushed vs temps) go ≡ go vs temps
on_taken_all n vs temps go e = ap (λ m. on_taken m (pushed vs temps) go) (sym e) ∙ ap (λ p. go p.0 p.1) (taken_all vs temps)

-- ---- entries of maps, and fields of records

-- each key in front of its value
abbrev pub flat : List (Value × Value) → List Value
flat [] = []
flat (p ∷ ps) = p.0 ∷ p.1 ∷ flat ps

pub flat_length : (ps : List (Value × Value)) → length (flat ps) ≡ length ps + length ps
flat_length [] = refl
flat_length (p ∷ ps) = let e = flat_length ps in omega (arith, e)

pub flat_pairs : (ps : List (Value × Value)) → pairs_of (flat ps) ≡ ps
flat_pairs [] = refl
flat_pairs (p ∷ ps) = ap (λ qs. p ∷ qs) (flat_pairs ps)

abbrev pub names : List (ℕ × Value) → List ℕ
names [] = []
names (q ∷ qs) = q.0 ∷ names qs

abbrev pub values : List (ℕ × Value) → List Value
values [] = []
values (q ∷ qs) = q.1 ∷ values qs

pub as_many : (qs : List (ℕ × Value)) → length (values qs) ≡ length (names qs)
as_many [] = refl
as_many (q ∷ qs) = ap suc (as_many qs)

pub paired_again : (qs : List (ℕ × Value)) → paired (names qs) (values qs) ≡ qs
paired_again [] = refl
paired_again (q ∷ qs) = ap (λ ps. q ∷ ps) (paired_again qs)

module _ (site : Site) (image : Image) (r : Trail.Run) where
  abbrev At : Around → List Instr → List Value → State → Type 0
  At a k temps st = Sim.At site image r a k temps st

  pub taken_comes : (n : ℕ) (vs temps : List Value) (go : List Value → List Value → Next) (c : Config) (tape : List Answer) → length vs ≡ n → Sim.Comes site image r (go vs temps) c tape → Sim.Comes site image r (on_taken n (pushed vs temps) go) c tape
  taken_comes n vs temps go c tape e h = Sim.comes_as site image r (on_taken n (pushed vs temps) go) (go vs temps) c tape (on_taken_all n vs temps go e) h

  -- one code for each
  abbrev pub AllPut : List Run → List (List Instr) → Type 0
  AllPut [] [] = Unit {0}
  AllPut [] (c ∷ cs) = ⊥
  AllPut (f ∷ fs) [] = ⊥
  AllPut (f ∷ fs) (c ∷ cs) = Sim.Puts site image r f c × AllPut fs cs

  pub all_at : (fs : List Run) (cs : List (List Instr)) → AllPut fs cs → (a : Around) (k : List Instr) (temps : List Value) (st : State) →
      Holds (λ vs s. length vs ≡ length cs → At a k (pushed vs temps) s) (Sim.Stopped site image r a) (all_of fs st) → At a (joined cs ++ k) temps st
  all_at [] [] h a k temps st post = post refl
  all_at [] (c ∷ cs) h a k temps st post = absurd h
  all_at (f ∷ fs) [] h a k temps st post = absurd h
  all_at (f ∷ fs) (c ∷ cs) h a k temps st post =
      Sim.again_at site image r a c (joined cs) k temps st
      (h.0 a (joined cs ++ k) temps st
      (weaken _ _ (Sim.Stopped site image r a) (f st) (λ v s g. all_at fs cs h.1 a k (v ∷ temps) s
      (weaken _ _ (Sim.Stopped site image r a) (all_of fs s) (λ vs s1 g1 n. g1 (ap suc n))
      (bound (λ vs s1. length vs ≡ suc (length cs) → At a k (pushed vs temps) s1) (Sim.Stopped site image r a) (all_of fs s) (λ vs s1. Gives (v ∷ vs) s1) g)))
      (bound (λ vs s. length vs ≡ suc (length cs) → At a k (pushed vs temps) s) (Sim.Stopped site image r a) (f st) (λ v s. bind (all_of fs s) (λ vs s1. Gives (v ∷ vs) s1)) post)))

  -- code of a key and its value
  abbrev pub PutsEntry : Entry → List Instr → Type 0
  PutsEntry f is = (a : Around) (k : List Instr) (temps : List Value) (st : State) → Holds (λ p s. At a k (p.1 ∷ p.0 ∷ temps) s) (Sim.Stopped site image r a) (f st) → At a (is ++ k) temps st

  pub entry_at : (f g : Run) (is js : List Instr) → Sim.Puts site image r f is → Sim.Puts site image r g js → PutsEntry (λ st. bind (f st) (λ k s. bind (g s) (λ v s1. Gives (k, v) s1))) (is ++ js)
  entry_at f g is js p q a k temps st post =
      Sim.again_at site image r a is js k temps st
      (p a (js ++ k) temps st
      (weaken _ _ (Sim.Stopped site image r a) (f st) (λ x s h. q a k (x ∷ temps) s (bound (λ (y : Value × Value) s1. At a k (y.1 ∷ y.0 ∷ temps) s1) (Sim.Stopped site image r a) (g s) (λ v s1. Gives (x, v) s1) h))
      (bound (λ (y : Value × Value) s. At a k (y.1 ∷ y.0 ∷ temps) s) (Sim.Stopped site image r a) (f st) (λ x s. bind (g s) (λ v s1. Gives (x, v) s1)) post)))

  abbrev pub AllEnter : List Entry → List (List Instr) → Type 0
  AllEnter [] [] = Unit {0}
  AllEnter [] (c ∷ cs) = ⊥
  AllEnter (f ∷ fs) [] = ⊥
  AllEnter (f ∷ fs) (c ∷ cs) = PutsEntry f c × AllEnter fs cs

  pub entries_at : (fs : List Entry) (cs : List (List Instr)) → AllEnter fs cs → (a : Around) (k : List Instr) (temps : List Value) (st : State) →
      Holds (λ ps s. length ps ≡ length cs → At a k (pushed (flat ps) temps) s) (Sim.Stopped site image r a) (all_entries fs st) → At a (joined cs ++ k) temps st
  entries_at [] [] h a k temps st post = post refl
  entries_at [] (c ∷ cs) h a k temps st post = absurd h
  entries_at (f ∷ fs) [] h a k temps st post = absurd h
  entries_at (f ∷ fs) (c ∷ cs) h a k temps st post =
      Sim.again_at site image r a c (joined cs) k temps st
      (h.0 a (joined cs ++ k) temps st
      (weaken _ _ (Sim.Stopped site image r a) (f st) (λ p s g. entries_at fs cs h.1 a k (p.1 ∷ p.0 ∷ temps) s
      (weaken _ _ (Sim.Stopped site image r a) (all_entries fs s) (λ ps s1 g1 n. g1 (ap suc n))
      (bound (λ ps s1. length ps ≡ suc (length cs) → At a k (pushed (flat ps) temps) s1) (Sim.Stopped site image r a) (all_entries fs s) (λ ps s1. Gives (p ∷ ps) s1) g)))
      (bound (λ ps s. length ps ≡ suc (length cs) → At a k (pushed (flat ps) temps) s) (Sim.Stopped site image r a) (f st) (λ p s. bind (all_entries fs s) (λ ps s1. Gives (p ∷ ps) s1)) post)))

  -- fields with their values
  abbrev pub AllFill : List (ℕ × Run) → List (ℕ × List Instr) → Type 0
  AllFill [] [] = Unit {0}
  AllFill [] (c ∷ cs) = ⊥
  AllFill (f ∷ fs) [] = ⊥
  AllFill (f ∷ fs) (c ∷ cs) = ((f.0 ≡ c.0) × Sim.Puts site image r f.1 c.1) × AllFill fs cs

  pub pairs_at : (fs : List (ℕ × Run)) (cs : List (ℕ × List Instr)) → AllFill fs cs → (a : Around) (k : List Instr) (temps : List Value) (st : State) →
      Holds (λ qs s. names qs ≡ fields_of cs → At a k (pushed (values qs) temps) s) (Sim.Stopped site image r a) (all_pairs fs st) → At a (pairs_code cs ++ k) temps st
  pairs_at [] [] h a k temps st post = post refl
  pairs_at [] (c ∷ cs) h a k temps st post = absurd h
  pairs_at (f ∷ fs) [] h a k temps st post = absurd h
  pairs_at (f ∷ fs) (c ∷ cs) h a k temps st post =
      Sim.again_at site image r a c.1 (pairs_code cs) k temps st
      (h.0.1 a (pairs_code cs ++ k) temps st
      (weaken _ _ (Sim.Stopped site image r a) (f.1 st) (λ v s g. pairs_at fs cs h.1 a k (v ∷ temps) s
      (weaken _ _ (Sim.Stopped site image r a) (all_pairs fs s) (λ qs s1 g1 n. g1 (ap (λ x. x ∷ names qs) h.0.0 ∙ ap (λ xs. c.0 ∷ xs) n))
      (bound (λ qs s1. names qs ≡ fields_of (c ∷ cs) → At a k (pushed (values qs) temps) s1) (Sim.Stopped site image r a) (all_pairs fs s) (λ qs s1. Gives ((f.0, v) ∷ qs) s1) g)))
      (bound (λ qs s. names qs ≡ fields_of (c ∷ cs) → At a k (pushed (values qs) temps) s) (Sim.Stopped site image r a) (f.1 st) (λ v s. bind (all_pairs fs s) (λ qs s1. Gives ((f.0, v) ∷ qs) s1)) post)))
