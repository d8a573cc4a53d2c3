use Rattle.std.proofs.Common.{rules, ◌≡◌, ◌∙◌, ap, take, drop, length}
use Rattle.std.specs.Str.{chars, encode_utf8_all}
use Rattle.text_methods.proofs.Halves.{rest_of, read_back}
use Rattle.text_methods.proofs.places.behind.Goals as goal

pub returns-clause-bytes : goal.returns-clause-bytes
returns-clause-bytes c =
    let size : c.bytes.result.now ≡ c.args.text.now = search rules in
    c.cut.ensures ∙ ap encode_utf8_all (ap (λ k. take k (drop c.args.n (chars c.args.text.now))) (ap length size) ∙ rest_of c.args.n c.args.text.now c.bytes.ensures.utf8)

pub returns-clause-scalars : goal.returns-clause-scalars
returns-clause-scalars c = read_back (drop c.args.n (chars c.args.text.now)) c.cut.result.now c.cut.utf8 (returns-clause-bytes c)
