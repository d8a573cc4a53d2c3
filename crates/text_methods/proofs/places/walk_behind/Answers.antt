use Rattle.std.proofs.Common.{rules, ◌∙◌, sym, ap, arith, ◌≡◌, drop, [], le_of_lt}
use Rattle.std.specs.Str.{chars, encode_utf8_all}
use Rattle.std.specs.Str.Iter.{chars_rest}
use Rattle.std.proofs.lemmas.Str.{encodes-chars, IsUtf8-nil}
use Rattle.text_methods.proofs.Halves.{passed, spent, read_back}
use Rattle.text_methods.proofs.places.walk_behind.Goals as goal

pub loop-passed-init : goal.loop-passed-init
loop-passed-init c = search (rules, encodes-chars)

pub returns-in-None-clause-bytes : goal.returns-in-None-clause-bytes
returns-in-None-clause-bytes c =
    spent c.loop-passed.passed c.args.n (chars c.args.text.now) (chars_rest c.loop-passed.rest) c.loop-passed.invariant.1 c.in-None.ensures.steps.0.0 (le_of_lt c.loop-passed-test.true)

pub loop-passed-preserved : goal.loop-passed-preserved
loop-passed-preserved c = (
  let lt = c.loop-passed-test.true in omega arith,
  passed c.loop-passed.passed (chars c.args.text.now) (chars_rest c.loop-passed.rest) (chars_rest c.next.new.self) c.in-Some.field-0 c.loop-passed.invariant.1 (c.in-Some.ensures.steps).0,
)

pub returns-clause-bytes : goal.returns-clause-bytes
returns-clause-bytes c =
    let e : c.args.n ≡ c.loop-passed.passed = let i = c.loop-passed.invariant.0 in let t = c.loop-passed-test.false in omega arith in
    c.as_str.ensures ∙ sym c.loop-passed.invariant.1 ∙ ap (λ n. encode_utf8_all (drop n (chars c.args.text.now))) (sym e)

pub returns-clause-scalars : goal.returns-clause-scalars
returns-clause-scalars c = read_back (drop c.args.n (chars c.args.text.now)) c.as_str.result.now c.as_str.utf8 (returns-clause-bytes c)

pub returns-in-None-clause-scalars : goal.returns-in-None-clause-scalars
returns-in-None-clause-scalars c = read_back (drop c.args.n (chars c.args.text.now)) [] IsUtf8-nil (returns-in-None-clause-bytes c)
