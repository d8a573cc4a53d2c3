-- How answers of readings are put together.
use Rattle.std.proofs.Common.{◌≡◌, Result, Ok, Err, sym, ap, ◌∙◌}
use Rattle.fault_words.specs.declared.fault.Fault.{Fault}
use Rattle.bundle_read.specs.declared.fault.BundleFault.{BundleFault}
use Rattle.bundle_read.specs.declared.fault.BundleFault.TheVariants.{Wrong, NoMemory}
use Rattle.bundle_read.specs.Readings.{◌>>=◌, IsFault, Stops, Tells}

-- a fault of the first step is one of all
pub then_stops : {A B : Type 0} (e : BundleFault) (r : Result A Fault) (next : A → Result B Fault) → Stops e r → Stops e (r >>= next)
then_stops e r next h = record { by = λ f is. ap (λ x. x >>= next) (h.by f is) }

-- a fault behind the first step
pub then_goes : {A B : Type 0} (e : BundleFault) (r : Result A Fault) (a : A) (next : A → Result B Fault) → r ≡ Ok a → Stops e (next a) → Stops e (r >>= next)
then_goes e r a next is h = record { by = λ f g. ap (λ x. x >>= next) is ∙ h.by f g }

pub then_ok : {A B : Type 0} (r : Result A Fault) (a : A) (next : A → Result B Fault) (z : Result B Fault) → r ≡ Ok a → next a ≡ z → (r >>= next) ≡ z
then_ok r a next z is h = ap (λ x. x >>= next) is ∙ h

pub fault_stops : {A : Type 0} (e : BundleFault) (g : Fault) → IsFault e g → Stops {A = A} e (Err g)
fault_stops (Wrong f) g h = record { by = λ k is. ap Err (sym h ∙ cc) }
fault_stops NoMemory g h = record { by = λ k is. absurd (cc) }

pub then_tells : {A B : Type 0} (x : Result B BundleFault) (r : Result A Fault) (a : A) (next : A → Result B Fault) → r ≡ Ok a → Tells x (next a) → Tells x (r >>= next)
then_tells (Ok b) r a next is h = then_ok r a next (Ok b) is h
then_tells (Err e) r a next is h = then_goes e r a next is h
