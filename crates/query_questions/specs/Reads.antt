-- What queries ask for (docs/platform.md, "Queries").
use Rattle.std.specs.Prelude.{ℕ, []}
use Rattle.apex_num.specs.declared.cell.Cell.TheVariants.{Id}
use Rattle.apex_rows.specs.declared.query.Term.TheVariants.{Given}
use Rattle.apex_rows.specs.declared.query.Cond.{Cond}
use Rattle.apex_rows.specs.declared.query.Cond.TheVariants.{Compare}
use Rattle.apex_rows.specs.declared.query.CondOp.TheVariants.{Equal}
use Rattle.row_meaning.specs.Users.{user_id}

-- rows of RowShare for a user
abbrev pub shared_with : ℕ → Cond
shared_with user = Compare (record { parents = []; field = 3 }) Equal (Given (Id (user_id user)))
