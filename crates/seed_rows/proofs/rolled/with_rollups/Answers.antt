use Rattle.std.proofs.Common.{arith, rules, ◌≡◌, ◌+◌, [], ◌∷◌, ◌++◌, take, None, Some, subst, sym}
use Rattle.std.proofs.lemmas.List.{take_all, length-map}
use Rattle.seed_rows.specs.Rolls.{IsOutAt, RollsTo}
use Rattle.seed_rows.specs.Seeds.{AreRolled}
use Rattle.seed_rows.specs.Views.{all_as_written}
use Rattle.seed_rows.proofs.RollSteps.{as_many, only_seed, out_at, rolled_more}
use Rattle.seed_rows.proofs.rolled.with_rollups.Goals as goal

pub out_of_range-requires : goal.out_of_range-requires
out_of_range-requires c =
    let many = as_many c.args.schema.now (all_as_written c.args.all.now) c.args.plain.now c.requires in
    omega (arith, simp length-map at many)

pub returns-in-None : goal.returns-in-None
returns-in-None c =
    let schema = c.args.schema.now in
    let ws = c.args.all.now in
    let plain = c.args.plain.now in
    let p = c.index-plain-i.result in
    let out : RollsTo schema plain p None = search rules in
    let told : IsOutAt schema (all_as_written ws) c.rows.i c.out_of_range.result = search rules in
    out_at schema (all_as_written ws) plain c.requires c.rows.rows.items c.rows.i p c.rows-test.true c.index-plain-i.is c.rows.invariant out c.out_of_range.result told

pub rows-preserved : goal.rows-preserved
rows-preserved c =
    let schema = c.args.schema.now in
    let plain = c.args.plain.now in
    let p = c.index-plain-i.result in
    let rolled : RollsTo schema plain p (Some c.in-Some.row) = search rules in
    let pushed : c.push.new.self.items ≡ c.rows.rows.items ++ c.in-Some.row ∷ [] = search rules in
    subst (λ l. AreRolled schema plain (take (c.rows.i + 1) plain) l) (sym pushed) (rolled_more schema plain plain c.rows.rows.items c.rows.i p c.in-Some.row c.rows-test.true c.index-plain-i.is c.rows.invariant rolled)

pub returns : goal.returns
returns c =
    let plain = c.args.plain.now in
    only_seed c.args.schema.now (all_as_written c.args.all.now) plain c.requires c.rows.rows.items
    (subst (λ l. AreRolled c.args.schema.now plain l c.rows.rows.items) (take_all c.rows.i plain c.rows-test.false) c.rows.invariant)
