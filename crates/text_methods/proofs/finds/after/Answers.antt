use Rattle.std.proofs.Common.{rules, ◌∙◌, sym, ap}
use Rattle.std.specs.Str.{chars, encode_utf8_all}
use Rattle.std.proofs.lemmas.Str.{encodes-chars}
use Rattle.text_methods.proofs.Occurs.{after_is}
use Rattle.text_methods.proofs.finds.after.Goals as goal

pub returns-in-Some : goal.returns-in-Some
returns-in-Some c =
    sym (encodes-chars c.in-Some.back.now (search rules))
    ∙ ap encode_utf8_all (sym (after_is (chars c.args.of.now) (chars c.args.text.now) (chars c.in-Some.field-0-0.now) (chars c.in-Some.back.now) c.in-Some.ensures.0 c.in-Some.ensures.1))
