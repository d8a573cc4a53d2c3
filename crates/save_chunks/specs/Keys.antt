-- What is looked at for records that stand twice.
use Rattle.std.specs.Prelude.{ℕ, List, map, Option}
use Rattle.apex_requests.specs.declared.request.SaveRow.{SaveRow}

abbrev pub keys_of : List SaveRow → List ℕ
keys_of rows = map (λ (r : SaveRow). r.key) rows

abbrev pub ids_given : List SaveRow → List (Option (List ℕ))
ids_given rows = map (λ (r : SaveRow). r.id) rows
