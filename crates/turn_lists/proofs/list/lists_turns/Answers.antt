use Rattle.std.proofs.Common.{◌∙◌, sym, codes, string_bytes}
use Rattle.turn_lists.proofs.Bytewise.{same_bytes, two_tested}
use Rattle.turn_lists.proofs.list.lists_turns.Goals as goal

pub returns-then-eq : goal.returns-then-eq
returns-then-eq c =
    two_tested string_bytes c.args.words.now c.word-item.result c.list-item.result c.in-len2.len_at_least c.in-len2.len_below c.word-item.is c.list-item.is c.as_bytes.result.now c.as_bytes.ensures.value
    (sym c.as_str.ensures.value ∙ same_bytes c.as_str.result.now (codes "turns") (sym c.eq.ensures ∙ c.if-eq.true)) c.is_list.result c.is_list.ensures
