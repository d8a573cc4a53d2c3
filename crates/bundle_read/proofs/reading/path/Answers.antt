use Rattle.std.proofs.Common.{◌≡◌, ◌∷◌, ℕ, List, Option, None, Bor, sym, ◌∙◌, arith}
use Rattle.std.proofs.lemmas.Str.Pattern.{strip_prefix_char}
use Rattle.std.proofs.lemmas.Result.{IfOk-weaker}
use Rattle.bundle_read.proofs.Whole.{path_plain}
use Rattle.bundle_read.proofs.reading.path.Goals as goal

pub returns-in-None : goal.returns-in-None
returns-in-None c =
    let place = c.args.place.now in
    let nothing : Option (Bor (List ℕ)) = None in
    let none : (rest : List ℕ) → place ≡ 46 ∷ rest → ⊥ = λ rest e. strip_prefix_char 46 c.as_str.result.now nothing c.in-None.ensures.cases (omega arith) rest (c.as_str.ensures ∙ e) in
    IfOk-weaker c.from_str-in-None.result _ _ (λ t e. e ∙ sym (path_plain place none)) c.from_str-in-None.ensures
