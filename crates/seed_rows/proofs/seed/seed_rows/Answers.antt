use Rattle.std.proofs.Common.{rules, ◌≡◌, List, MatchResult, subst}
use Rattle.seed_rows.specs.Written.{Written}
use Rattle.seed_rows.specs.Seeds.{IsOnlySeed, NoSeed, all_written}
use Rattle.seed_rows.specs.Views.{all_as_written}
use Rattle.seed_rows.proofs.seed.seed_rows.Goals as goal

pub returns : goal.returns
returns c =
    let schema = c.args.places.now.schema.now in
    let same : all_as_written c.as_slice-2.result.now ≡ all_written schema c.args.entries.now = search rules in
    subst (λ (l : List Written). MatchResult c.rows.result (λ rows. IsOnlySeed schema l rows.items) (NoSeed schema l)) same c.rows.ensures
