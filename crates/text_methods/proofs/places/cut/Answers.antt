use Rattle.std.proofs.Common.{rules, ◌∙◌, ap, take, drop}
use Rattle.std.specs.Str.{IsAscii, chars, encode_utf8_all}
use Rattle.text_methods.proofs.Halves.{ascii_cut}
use Rattle.text_methods.proofs.places.cut.Goals as goal

pub returns-then-is_ascii : goal.returns-then-is_ascii
returns-then-is_ascii c =
    let ascii : IsAscii c.args.text.now = search rules in
    c.cut_bytes.ensures ∙ ap (λ s. take c.args.m (drop c.args.n s)) c.as_str.ensures ∙ ascii_cut c.args.n c.args.m c.args.text.now ascii

pub returns-else-is_ascii : goal.returns-else-is_ascii
returns-else-is_ascii c =
    c.walk_up_to.ensures ∙
    ap (λ cs. encode_utf8_all (take c.args.m cs)) (c.walk_behind.ensures.scalars ∙ ap (λ s. drop c.args.n (chars s)) c.as_str-else-is_ascii.ensures)
