use Rattle.std.proofs.Common.{◌∙◌, ap, codes, string_bytes}
use Rattle.std.specs.Prelude.{bytes_eq}
use Rattle.commands.proofs.Rows.{one_word}
use Rattle.commands.proofs.words.is_exec.Goals as goal

pub returns-in-len1 : goal.returns-in-len1
returns-in-len1 c =
    one_word string_bytes c.args.words.now c.word-item.result c.in-len1.len_at_least c.in-len1.len_below c.word-item.is c.eq.result (c.eq.ensures ∙ ap (λ w. bytes_eq w (codes "exec")) c.as_str.ensures.value)
