use Rattle.std.proofs.Common.{◌++◌, ◌∷◌, ◌∙◌, ℕ, List, [], ap, cond, append_assoc}
use Rattle.apex_text.specs.Fold.{folded}
use Rattle.schema_plans.specs.Plans as spec
use Rattle.schema_build.proofs.lookup.with_field.Goals as goal

pub returns : goal.returns
returns c =
    let words : List (List ℕ) = c.args.words.list.items in
    let rel : List (List ℕ) = cond (spec.is_link c.args.field.now.kind) (spec.given c.args.field.now.relation) [] in
    c.in_ok-all.ensures
    ∙ ap (λ (l : List (List ℕ)). l ++ rel) c.in_ok-named.ensures
    ∙ ap (λ (n : List ℕ). (words ++ n ∷ []) ++ rel) c.in_ok-name.ensures
    ∙ append_assoc words (folded c.args.field.now.name ∷ []) rel
