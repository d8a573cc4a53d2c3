-- Charges by sizes.
use Rattle.std.proofs.Common.{◌≡◌, ℕ, ◌+◌, ◌-◌, ◌*◌, ◌^◌, min, Option, subst, arith}
use Rattle.apex_num.specs.declared.kind.LimitKind.TheVariants.{Alloc}
use Rattle.heap_units.specs.Growths.{capped}
use Rattle.stack_code.specs.declared.state.Config.{Config}
use Rattle.program_things.specs.declared.moved.Moved.{Moved}
use Rattle.program_things.specs.Steps.{Charges}
use Rattle.program_things.proofs.Charged.{capped_charges}

pub sized_charges : (n k : ℕ) (c : Config) (r : Option Moved) (d : Config) → k ≡ min (n + 16) (2 ^ 64 - 1) → Charges Alloc k c r d → Charges Alloc (16 + n) c r d
sized_charges n k c r d e h =
    let turned : n + 16 ≡ 16 + n = omega arith in
    subst (λ m. Charges Alloc m c r d) turned (capped_charges (n + 16) c r d (subst (λ m. Charges Alloc m c r d) e h))

pub record_charges : (n a b : ℕ) (c : Config) (r : Option Moved) (d : Config) → a ≡ min (n * 32) (2 ^ 64 - 1) → b ≡ min (a + 32) (2 ^ 64 - 1) → Charges Alloc b c r d → Charges Alloc (32 + 32 * n) c r d
record_charges n a b c r d e f h =
    let g : b ≡ capped (32 + 32 * n) = omega (arith, e, f) in capped_charges (32 + 32 * n) c r d (subst (λ m. Charges Alloc m c r d) g h)
