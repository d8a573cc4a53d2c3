-- What is due, one by one.
use Rattle.std.proofs.Common.{◌≡◌, ℕ, ◌+◌, ◌<◌, List, [], ◌∷◌, ◌++◌, map, take, length, get_or, slice_get, sym, ap, ◌∙◌}
use Rattle.std.proofs.lemmas.List.{take_more, map-append}
use Rattle.std.proofs.lemmas.Option.{slice_get-get_or}
use Rattle.typed_calls.specs.Wants.{wanted, wanted_at}
use Rattle.builtin_signatures.specs.declared.due.Due.{Due}
use Rattle.builtin_signatures.specs.declared.due.Due.TheVariants.{Plain}
use Rattle.typed_values.specs.declared.typed.Kind.{Kind}

pub one_due_more : (r : Kind) (xs : List Due) (i : ℕ) → i < length xs → map (wanted r) (take i xs) ++ wanted_at r (slice_get xs i) ∷ [] ≡ map (wanted r) (take (i + 1) xs)
one_due_more r xs i h =
    ap (λ o. map (wanted r) (take i xs) ++ wanted_at r o ∷ []) (slice_get-get_or xs i Plain h) ∙
    sym (ap (map (wanted r)) (take_more xs i Plain h) ∙ map-append (wanted r) (take i xs) (get_or xs i Plain ∷ []))
