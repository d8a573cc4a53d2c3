use Rattle.std.proofs.Common.{arith, rules, ◌<◌, ◌^◌, length}
use Rattle.std.specs.Str.{chars}
use Rattle.text_methods.proofs.Walks.{some_chars, length-le-chars}
use Rattle.text_methods.proofs.Counts.{matches_more, matches_none, matches_nothing, back_shorter}
use Rattle.text_methods.proofs.replaces.count_matches.Goals as goal

pub returns-then-is_empty-clause-value : goal.returns-then-is_empty-clause-value
returns-then-is_empty-clause-value c =
    matches_nothing c.args.text.now c.args.of.now (search rules)

pub overflow_add-count : goal.overflow_add-count
overflow_add-count c =
    let some = some_chars c.args.of.now c.utf8.of (search rules) in
    let less = back_shorter (chars c.args.of.now) (chars c.loop-back.rest.now) (chars c.in-Some.field-0-0.now) (chars c.in-Some.back.now) some c.in-Some.ensures.1 in
    let i = c.loop-back.invariant.2 in
    let b : length c.args.text.now < 2 ^ 64 = search rules in
    let s = length-le-chars c.args.text.now c.utf8.text in
    omega arith

pub loop-back-smaller : goal.loop-back-smaller
loop-back-smaller c =
    let some = some_chars c.args.of.now c.utf8.of (search rules) in
    back_shorter (chars c.args.of.now) (chars c.loop-back.rest.now) (chars c.in-Some.field-0-0.now) (chars c.in-Some.back.now) some c.in-Some.ensures.1

pub loop-back-preserved : goal.loop-back-preserved
loop-back-preserved c =
    let some = some_chars c.args.of.now c.utf8.of (search rules) in
    let less = back_shorter (chars c.args.of.now) (chars c.loop-back.rest.now) (chars c.in-Some.field-0-0.now) (chars c.in-Some.back.now) some c.in-Some.ensures.1 in
    let more = matches_more (chars c.args.of.now) (chars c.loop-back.rest.now) (chars c.in-Some.field-0-0.now) (chars c.in-Some.back.now) some c.in-Some.ensures.0 c.in-Some.ensures.1 in
    let i = c.loop-back.invariant.1 in
    let j = c.loop-back.invariant.2 in
    (search rules, omega arith, omega arith)

pub returns-clause-small : goal.returns-clause-small
returns-clause-small c =
    let i = c.loop-back.invariant.2 in
    let b : length c.args.text.now < 2 ^ 63 = search rules in
    let s = length-le-chars c.args.text.now c.utf8.text in
    omega arith

pub returns-clause-value : goal.returns-clause-value
returns-clause-value c =
    let some = some_chars c.args.of.now c.utf8.of (search rules) in
    let none = matches_none (chars c.args.of.now) (chars c.loop-back.rest.now) some c.in_default.ensures in
    let i = c.loop-back.invariant.1 in
    omega arith
