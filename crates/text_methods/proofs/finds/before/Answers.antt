use Rattle.std.proofs.Common.{rules, ◌∙◌, sym, ap}
use Rattle.std.specs.Str.{chars, encode_utf8_all}
use Rattle.std.proofs.lemmas.Str.{encodes-chars}
use Rattle.text_methods.proofs.Occurs.{before_is}
use Rattle.text_methods.proofs.finds.before.Goals as goal

pub returns-in-Some : goal.returns-in-Some
returns-in-Some c =
    sym (encodes-chars c.in-Some.front.now (search rules))
    ∙ ap encode_utf8_all (sym (before_is (chars c.args.of.now) (chars c.args.text.now) (chars c.in-Some.front.now) (chars c.in-Some.field-0-1.now) c.in-Some.ensures.0 c.in-Some.ensures.1))

pub returns-in-None : goal.returns-in-None
returns-in-None c = search (rules, encodes-chars)
