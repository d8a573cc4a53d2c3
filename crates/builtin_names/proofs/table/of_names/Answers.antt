use Rattle.builtin_names.proofs.Tables.{in_texts, in_numbers, in_dates, in_collections, in_platform}
use Rattle.builtin_names.proofs.table.of_names.Goals as goal

pub returns-in-Some : goal.returns-in-Some
returns-in-Some c = in_texts c.args.kind.now c.args.name.now c.args.count c.in-Some.builtin c.in-Some.ensures

pub returns-in-Some-of_numbers : goal.returns-in-Some-of_numbers
returns-in-Some-of_numbers c = in_numbers c.args.kind.now c.args.name.now c.args.count c.in-Some-of_numbers.builtin c.in_default.ensures c.in-Some-of_numbers.ensures

pub returns-in-Some-of_dates : goal.returns-in-Some-of_dates
returns-in-Some-of_dates c = in_dates c.args.kind.now c.args.name.now c.args.count c.in-Some-of_dates.builtin c.in_default.ensures c.in_default-of_numbers.ensures c.in-Some-of_dates.ensures

pub returns-in-Some-of_collections : goal.returns-in-Some-of_collections
returns-in-Some-of_collections c =
    in_collections c.args.kind.now c.args.name.now c.args.count c.in-Some-of_collections.builtin c.in_default.ensures c.in_default-of_numbers.ensures c.in_default-of_dates.ensures c.in-Some-of_collections.ensures

pub returns : goal.returns
returns c =
    in_platform c.args.kind.now c.args.name.now c.args.count c.of_platform.result c.in_default.ensures c.in_default-of_numbers.ensures c.in_default-of_dates.ensures c.in_default-of_collections.ensures c.of_platform.ensures
