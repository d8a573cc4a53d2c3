-- Binds without values.
use Rattle.std.proofs.Common.{◌≡◌, List, [], ◌∷◌, ◌++◌, refl, ap}
use Rattle.apex_rows.specs.declared.query.Bind.{Bind}
use Rattle.apex_meaning.specs.Queries.{Bound, Has, all_bound, then_bound}
use Rattle.query_records.specs.declared.bind.BindKind.{BindKind}
use Rattle.txn_heap.specs.declared.thing.Thing.{Thing}

-- where no value is left, no bind is given
pub none_left : (kinds : List BindKind) (heap : List Thing) → all_bound kinds [] heap ≡ Has []
none_left [] heap = refl
none_left (k ∷ ks) heap = refl

right : (bs : List Bind) → bs ++ [] ≡ bs
right [] = refl
right (b ∷ bs) = ap (λ x. b ∷ x) (right bs)

pub has_all : (bs : List Bind) → Has (bs ++ []) ≡ Has bs
has_all bs = ap (λ x. Has x) (right bs)
