use Rattle.std.proofs.Common.{◌≡◌, take, map}
use Rattle.method_calls.specs.MethodNamings.{names_in, names_of_table}
use Rattle.method_calls.proofs.named.all_names.Given as goal

abbrev pub invariant-loop-table : goal.invariant-loop-table
invariant-loop-table l = map names_in l.all ≡ map names_of_table (take l.table-index l.tables)
