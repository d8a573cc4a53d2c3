-- The places of fields, class by class.
use Rattle.std.specs.Prelude.{◌≡◌, ℕ, zero, suc, ◌+◌, ◌≤◌, List, [], ◌∷◌, ◌++◌, length, slice_get, Option}
use Rattle.std.proofs.Common.{sym, ap, ◌∙◌, arith}
use Rattle.std.proofs.lemmas.Option.{slice_get_past}
use Rattle.apex_meaning.specs.Classes.{behind, chain_within, linked, parent_of, width}
use Rattle.typed_program.specs.declared.program.Program.{Program}
use Rattle.typed_program.specs.declared.unit.TypedClass.{TypedClass}
use Rattle.stack_compiler.specs.Offsets.{from, offset, or_zero}

zero_plus : (c : ℕ) → 0 + c ≡ c
zero_plus c = omega arith

-- one number more
more : (f : ℕ → ℕ) (n k : ℕ) → from f n (suc k) ≡ from f n k ++ f (n + k) ∷ []
more f n zero = ap (λ i. f i ∷ []) (let g : n ≡ n + zero = omega arith in g)
more f n (suc k) = ap (λ l. f n ∷ l) (more f (suc n) k ∙ ap (λ i. from f (suc n) k ++ f i ∷ []) (let g : suc n + k ≡ n + suc k = omega arith in g))

pub one_more : (f : ℕ → ℕ) (old new : List ℕ) (k x : ℕ) → old ≡ from f 0 k → x ≡ f k → new ≡ old ++ x ∷ [] → new ≡ from f 0 (k + 1)
one_more f old new k x o e n =
    n ∙ ap (λ l. l ++ x ∷ []) o ∙ ap (λ y. from f 0 k ++ y ∷ []) (e ∙ ap f (sym (zero_plus k))) ∙ sym (more f 0 k) ∙ ap (λ i. from f 0 i) (let g : suc k ≡ k + 1 = omega arith in g)

placed_from : (f : ℕ → ℕ) (n k c : ℕ) → (k ≤ c → f (n + c) ≡ 0) → or_zero (slice_get (from f n k) c) ≡ f (n + c)
placed_from f n zero c h = sym (h (omega arith))
placed_from f n (suc k) zero h = ap f (let g : n ≡ n + zero = omega arith in g)
placed_from f n (suc k) (suc c) h =
    let same : suc n + c ≡ n + suc c = omega arith in
    placed_from f (suc n) k c (λ le. ap f same ∙ h (omega arith)) ∙ ap f same

-- a class that isn't there has no ancestors
lacking : (program : Program) (c : ℕ) → length program.classes ≤ c → offset program c ≡ 0
lacking program c le =
    ap (λ (k : Option TypedClass). width program (behind (linked c k (chain_within 32 program (parent_of k))))) (slice_get_past program.classes c le)

pub placed : (program : Program) (c : ℕ) → or_zero (slice_get (from (offset program) 0 (length program.classes)) c) ≡ offset program c
placed program c = placed_from (offset program) 0 (length program.classes) c (λ le. ap (offset program) (zero_plus c) ∙ lacking program c le) ∙ ap (offset program) (zero_plus c)
