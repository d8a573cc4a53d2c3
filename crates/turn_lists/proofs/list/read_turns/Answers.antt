use Rattle.std.proofs.Common.{◌∙◌, sym, codes, string_bytes}
use Rattle.turn_lists.proofs.Bytewise.{of_words, same_bytes}
use Rattle.turn_lists.proofs.list.read_turns.Goals as goal

pub returns-then-eq : goal.returns-then-eq
returns-then-eq c =
    of_words (λ t. t.items) string_bytes c.args.words.now c.word-item.result c.list-item.result c.in-len2.len_at_least c.in-len2.len_below c.word-item.is c.list-item.is c.as_bytes.result.now c.as_bytes.ensures.value
    (sym c.as_str.ensures.value ∙ same_bytes c.as_str.result.now (codes "turns") (sym c.eq.ensures ∙ c.if-eq.true)) c.read_list.result c.read_list.ensures
