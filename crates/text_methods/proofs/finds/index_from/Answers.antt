use Rattle.std.proofs.Common.{arith, ◌≤◌, ◌++◌, length, sym, ◌∙◌}
use Rattle.std.specs.Str.{chars}
use Rattle.text_methods.proofs.Occurs.{front_short}
use Rattle.text_methods.proofs.finds.index_from.Goals as goal

pub overflow_add-result : goal.overflow_add-result
overflow_add-result c =
    let within : c.place-n.result ≤ length (chars c.args.text.now) = let a = c.if-n-length.false in let b = c.length.ensures.value in omega arith in
    let short = front_short c.place-n.result (chars c.args.text.now) (chars c.in-Some.front.now) (chars c.args.of.now ++ chars c.in-Some.field-0-1.now) (sym c.behind.ensures.scalars ∙ c.in-Some.ensures.1) within in
    let b = c.length.ensures.value in
    let l = c.length-in-Some.ensures.value in
    let t = c.length.type_inv in
    omega arith

pub returns-in-Some-clause-small : goal.returns-in-Some-clause-small
returns-in-Some-clause-small c =
    let within : c.place-n.result ≤ length (chars c.args.text.now) = let a = c.if-n-length.false in let b = c.length.ensures.value in omega arith in
    let short = front_short c.place-n.result (chars c.args.text.now) (chars c.in-Some.front.now) (chars c.args.of.now ++ chars c.in-Some.field-0-1.now) (sym c.behind.ensures.scalars ∙ c.in-Some.ensures.1) within in
    let b = c.length.ensures.value in
    let l = c.length-in-Some.ensures.value in
    let t = c.length.ensures.small in
    omega arith
