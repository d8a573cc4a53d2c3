-- What of a query's condition a store is asked for (docs/platform.md, "Queries").
use Rattle.std.specs.Prelude.{List, map}
use Rattle.apex_num.specs.declared.cell.Cell.{Cell}
use Rattle.apex_rows.specs.declared.query.Bind.{Bind}
use Rattle.apex_rows.specs.declared.query.Term.TheVariants.{Given}
use Rattle.apex_rows.specs.declared.query.Terms.{Terms}
use Rattle.apex_rows.specs.declared.query.Terms.TheVariants.{Given as GivenAll}
use Rattle.apex_rows.specs.declared.query.Cond.{Cond}
use Rattle.apex_rows.specs.declared.query.Cond.TheVariants.{All, Any, Not, Compare, Within}
use Rattle.apex_rows.specs.declared.query.Cond.TheOpen.{Cond-F}
use Rattle.apex_rows.specs.declared.query.Cond.TheFolds.{fold-Cond}
use Rattle.row_meaning.specs.Conds.{term_value, terms_values, local_part}

-- ---- a condition with the values of its binds in their places

abbrev pub given_terms : List Bind → Terms → Terms
given_terms binds ts = GivenAll (map (λ (c : Cell). Given c) (terms_values binds ts))

abbrev pub given_step : List Bind → Cond-F Cond → Cond
given_step binds (Cond-F.All cs) = All cs
given_step binds (Cond-F.Any cs) = Any cs
given_step binds (Cond-F.Not c) = Not c
given_step binds (Cond-F.Compare path op term) = Compare path op (Given (term_value binds term))
given_step binds (Cond-F.Within path negated terms) = Within path negated (given_terms binds terms)

abbrev pub given : List Bind → Cond → Cond
given binds = fold-Cond Cond (given_step binds)

-- what has to hold together and names only fields of the query's own object
abbrev pub asked : List Bind → Cond → List Cond
asked binds c = local_part (given binds c)
