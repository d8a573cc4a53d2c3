-- What is charged, and what comes behind it.
use Rattle.std.proofs.Common.{◌≡◌, ℕ, ◌+◌, ◌-◌, ◌<◌, ◌≤◌, ◌^◌, min, Bool, true, false, List, [], ◌∷◌, ◌++◌, length, Option, Some, None, Result, Ok, Err, refl, sym, ap, subst, ◌∙◌, arith}
use Rattle.std.specs.Prelude.{MatchResult}
use Rattle.std.proofs.lemmas.Bool.{le-leb, lt-leb}
use Rattle.apex_num.specs.declared.kind.LimitKind.{LimitKind}
use Rattle.apex_num.specs.declared.kind.LimitKind.TheVariants.{Alloc}
use Rattle.limit_meter.specs.declared.Limit.{Limit}
use Rattle.limit_meter.specs.Charges.{limit_of, count_of, with_count}
use Rattle.heap_units.specs.Growths.{capped}
use Rattle.stack_code.specs.declared.state.Config.{Config}
use Rattle.stack_code.specs.Machine.{Next, charged, charged_if, limited, with_txn}
use Rattle.program_things.specs.declared.moved.Moved.{Moved}
use Rattle.program_things.specs.Steps.{IsStep, Charges, ChargesText, paid}

pub charged_paid : (k : LimitKind) (n : ℕ) (c : Config) (go : Config → Next) → count_of c.world.txn.meter k + n ≤ limit_of k → charged k n c go ≡ go (paid k n c)
charged_paid k n c go le = ap (λ b. charged_if b k n c go) (le-leb _ _ le)

pub charged_over : (k : LimitKind) (n : ℕ) (c : Config) (go : Config → Next) (m : Moved) (d : Config) → Charges k n c (Some m) d → IsStep (charged k n c go) m d
charged_over k n c go m d h = subst (λ x. IsStep x m d) (sym (ap (λ b. charged_if b k n c go) (lt-leb _ _ h.0))) h.1

-- behind a charge that was paid
pub behind_paid : (k : LimitKind) (n : ℕ) (c d : Config) (go : Config → Next) → Charges k n c None d → charged k n c go ≡ go d
behind_paid k n c d go h = charged_paid k n c go h.0 ∙ ap go (sym h.1)

-- 2^64 - 1 units stand for more, which are over the limit too
pub capped_charges : (n : ℕ) (c : Config) (r : Option Moved) (d : Config) → Charges Alloc (capped n) c r d → Charges Alloc n c r d
capped_charges n c None d h =
    let e : capped n ≡ n = omega (arith, h.0) in (omega (arith, h.0), h.1 ∙ ap (λ k. paid Alloc k c) e)
capped_charges n c (Some m) d h = (omega (arith, h.0), h.1)

-- ---- texts

abbrev pub with_meter : List ℕ → Config → Config
with_meter m c = with_txn c (record (c.world.txn) { meter = m })

pub text_paid : (text made meter : List ℕ) (c : Config) → made ≡ text → count_of c.world.txn.meter Alloc + (16 + length made) ≤ limit_of Alloc →
    meter ≡ with_count c.world.txn.meter Alloc (count_of c.world.txn.meter Alloc + (16 + length made)) → ChargesText text c (Ok made) (with_meter meter c)
text_paid text made meter c e le is = (
  e,
  (
    subst (λ t. count_of c.world.txn.meter Alloc + (16 + length t) ≤ limit_of Alloc) e le,
    ap (λ m. with_meter m c) (is ∙ ap (λ t. with_count c.world.txn.meter Alloc (count_of c.world.txn.meter Alloc + (16 + length t))) e),
  ),
)

-- what is said of a text that was made, and of one for which no units were left
abbrev pub Made : List ℕ → List ℕ → List ℕ → List ℕ → Type 0
Made text old new made = (made ≡ text) × (count_of old Alloc + (16 + length made) ≤ limit_of Alloc) × (new ≡ with_count old Alloc (count_of old Alloc + (16 + length made)))

abbrev pub Over : List ℕ → List ℕ → List ℕ → Limit → Type 0
Over text old new limit = (limit_of Alloc < count_of old Alloc + (16 + length text)) × (limit.kind ≡ Alloc) × (limit.number ≡ limit_of Alloc + 1) × (new ≡ old)

pub text_made : (text old new made : List ℕ) (r : Result (List ℕ) Limit) → r ≡ Ok made → MatchResult r (Made text old new) (Over text old new) → Made text old new made
text_made text old new made r e h = subst (λ x. MatchResult x (Made text old new) (Over text old new)) e h

pub text_over : (text old new : List ℕ) (limit : Limit) (r : Result (List ℕ) Limit) → r ≡ Err limit → MatchResult r (Made text old new) (Over text old new) → Over text old new limit
text_over text old new limit r e h = subst (λ x. MatchResult x (Made text old new) (Over text old new)) e h

-- a limit that was passed ends the request
pub over_charges : (text new : List ℕ) (c d : Config) (limit : Limit) (m : Moved) → Over text c.world.txn.meter new limit → IsStep (limited limit.kind limit.number c.world) m d → Charges Alloc (16 + length text) c (Some m) d
over_charges text new c d limit m o s =
    (o.0, subst (λ k. IsStep (limited k (limit_of Alloc + 1) c.world) m d) o.1 (subst (λ n. IsStep (limited limit.kind n c.world) m d) o.2 s))
