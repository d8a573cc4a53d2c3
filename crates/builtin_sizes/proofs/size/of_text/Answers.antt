use Rattle.std.proofs.Common.{rules, ◌∙◌, ◌<◌, ◌^◌, ap, sym, length, reverse}
use Rattle.std.specs.Str.{chars, encode_utf8_all}
use Rattle.std.specs.Char.{to_ascii_uppercase, to_ascii_lowercase}
use Rattle.text_methods.specs.Texts.{first_by}
use Rattle.builtin_sizes.specs.Sizes.{sized}
use Rattle.builtin_table.specs.Meanings.{text_meaning}
use Rattle.builtin_sizes.proofs.SizeSteps.{size_is, upper_size, lower_size, reverse_size}
use Rattle.builtin_sizes.proofs.size.of_text.Goals as goal

pub returns-in-Capitalize : goal.returns-in-Capitalize
returns-in-Capitalize c =
    let short : length c.args.s.now < 2 ^ 63 = search rules in
    size_is (encode_utf8_all (first_by to_ascii_uppercase (chars c.args.s.now))) (length c.args.s.now) (upper_size c.args.s.now c.utf8.s) short ∙ ap (λ m. sized (text_meaning m c.args.s.now)) (sym c.in-Capitalize.is)

pub returns-in-Uncapitalize : goal.returns-in-Uncapitalize
returns-in-Uncapitalize c =
    let short : length c.args.s.now < 2 ^ 63 = search rules in
    size_is (encode_utf8_all (first_by to_ascii_lowercase (chars c.args.s.now))) (length c.args.s.now) (lower_size c.args.s.now c.utf8.s) short ∙ ap (λ m. sized (text_meaning m c.args.s.now)) (sym c.in-Uncapitalize.is)

pub returns-in-Reverse : goal.returns-in-Reverse
returns-in-Reverse c =
    let short : length c.args.s.now < 2 ^ 63 = search rules in
    size_is (encode_utf8_all (reverse (chars c.args.s.now))) (length c.args.s.now) (reverse_size c.args.s.now c.utf8.s) short ∙ ap (λ m. sized (text_meaning m c.args.s.now)) (sym c.in-Reverse.is)
