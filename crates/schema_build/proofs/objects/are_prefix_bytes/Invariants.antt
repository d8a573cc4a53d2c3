use Rattle.std.proofs.Common.{◌≡◌, ◌||◌, drop}
use Rattle.std.specs.List.{list_all}
use Rattle.schema_names.specs.Names.{is_letter, is_digit}
use Rattle.schema_build.proofs.objects.are_prefix_bytes.Given as goal

abbrev pub invariant-loop-b : goal.invariant-loop-b
invariant-loop-b l = list_all (λ b. is_letter b || is_digit b) (drop l.b-index l.prefix) ≡ list_all (λ b. is_letter b || is_digit b) l.prefix
