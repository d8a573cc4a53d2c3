-- What a record leads to.
use Rattle.std.proofs.Common.{◌≡◌, ℕ, zero, suc, ◌-◌, ◌<◌, ◌≤◌, List, ◌++◌, length, map, filter, drop, sym, ap, ◌∙◌, append-nil, arith}
use Rattle.std.proofs.lemmas.List.{at_drop_all}
use Rattle.apex_rows.specs.declared.query.Path.{Path}
use Rattle.query_records.specs.Shapes.{is_behind, overs_at}
use Rattle.query_records.specs.Knowing.{over_of}
use Rattle.query_records.specs.declared.shape.Over.{Over}

-- over at most n fields, where n isn't 0
overs_on : (n : ℕ) (followed selected : List (ℕ × Path)) (way : List ℕ) → 0 < n → map (over_of (n - 1) followed selected) (filter (is_behind way) followed) ≡ overs_at n followed selected way
overs_on zero followed selected way h = absurd (omega arith)
overs_on (suc n) followed selected way h = ap (λ m. map (over_of m followed selected) (filter (is_behind way) followed)) (sub_one n) where
  sub_one : (n : ℕ) → suc n - 1 ≡ n
  sub_one n = omega arith

-- with the last followed field
pub all_overs : (n : ℕ) (followed selected : List (ℕ × Path)) (way : List ℕ) (i : ℕ) (done : List Over) → 0 < n → length followed ≤ i →
    done ++ map (over_of (n - 1) followed selected) (filter (is_behind way) (drop i followed)) ≡ map (over_of (n - 1) followed selected) (filter (is_behind way) followed) →
    done ≡ overs_at n followed selected way
all_overs n followed selected way i done some h e =
    sym (append-nil done) ∙ sym (at_drop_all (λ fs. done ++ map (over_of (n - 1) followed selected) (filter (is_behind way) fs)) followed i h) ∙ e ∙ overs_on n followed selected way some
