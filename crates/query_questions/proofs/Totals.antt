-- Units of rows, list by list.
use Rattle.std.proofs.Common.{◌≡◌, ℕ, ◌+◌, ◌<◌, ◌^◌, List, [], ◌∷◌, ◌++◌, map, length, get_or, drop, sym, ap, ◌∙◌, arith, add-one, drop-cons, zero-add, add_assoc}
use Rattle.apex_schema.specs.declared.schema.Schema.{Schema}
use Rattle.apex_rows.specs.declared.row.Row.{Row}
use Rattle.apex_rows.specs.declared.row.Child.{Child}
use Rattle.apex_rows.specs.declared.row.Found.{Found}
use Rattle.query_meaning.specs.Queries.{children_in, row_units, rows_in, units_of}
use Rattle.query_questions.specs.Capped.{capped}

units_append : (schema : Schema) (xs ys : List Row) → units_of schema (xs ++ ys) ≡ units_of schema xs + units_of schema ys
units_append schema [] ys = sym (zero-add (units_of schema ys))
units_append schema (x ∷ xs) ys = ap (λ n. row_units schema x + n) (units_append schema xs ys) ∙ sym (add_assoc (row_units schema x) (units_of schema xs) (units_of schema ys))

here : {A : Type 0} (i : ℕ) (xs : List A) (x : A) → i < length xs → x ≡ get_or xs i x → drop i xs ≡ x ∷ drop (i + 1) xs
here i xs x lt at = drop-cons xs i x lt ∙ ap (λ n. get_or xs i x ∷ drop n xs) (sym (add-one i)) ∙ ap (λ y. y ∷ drop (i + 1) xs) (sym at)

with_more : (s t a rest : ℕ) → t ≡ capped (s + a) → capped (t + rest) ≡ capped (s + (a + rest))
with_more s t a rest e = omega (arith, e)

pub is_small : (t n : ℕ) → t ≡ capped n → t < 2 ^ 64
is_small t n e = omega (arith, e)

-- one list more
pub list_next : (schema : Schema) (i : ℕ) (lists : List (List Child)) (cs : List Child) (s t whole : ℕ) → i < length lists → cs ≡ get_or lists i cs → t ≡ capped (s + units_of schema (map (λ (c : Child). c.row) cs)) →
    capped (s + units_of schema (children_in (drop i lists))) ≡ whole → capped (t + units_of schema (children_in (drop (i + 1) lists))) ≡ whole
list_next schema i lists cs s t whole lt at e h =
    let rest = children_in (drop (i + 1) lists) in
    with_more s t (units_of schema (map (λ (c : Child). c.row) cs)) (units_of schema rest) e
    ∙ ap (λ n. capped (s + n)) (sym (units_append schema (map (λ (c : Child). c.row) cs) rest) ∙ ap (λ (ls : List (List Child)). units_of schema (children_in ls)) (sym (here i lists cs lt at)))
    ∙ h

-- one row more, with those under it
pub found_next : (schema : Schema) (i : ℕ) (found : List Found) (f : Found) (s own t whole : ℕ) → i < length found → f ≡ get_or found i f → own ≡ capped (s + row_units schema f.row) →
    t ≡ capped (own + units_of schema (children_in f.children)) → capped (s + units_of schema (rows_in (drop i found))) ≡ whole → capped (t + units_of schema (rows_in (drop (i + 1) found))) ≡ whole
found_next schema i found f s own t whole lt at first e h =
    let rest = rows_in (drop (i + 1) found) in
    with_more own t (units_of schema (children_in f.children)) (units_of schema rest) e
    ∙ with_more s own (row_units schema f.row) (units_of schema (children_in f.children) + units_of schema rest) first
    ∙ ap (λ n. capped (s + (row_units schema f.row + n))) (sym (units_append schema (children_in f.children) rest))
    ∙ ap (λ (fs : List Found). capped (s + units_of schema (rows_in fs))) (sym (here i found f lt at))
    ∙ h
