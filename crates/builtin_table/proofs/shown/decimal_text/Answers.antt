use Rattle.std.proofs.Common.{sym, subst}
use Rattle.std.specs.Str.{IsUtf8}
use Rattle.apex_num.specs.Decimals.{dec_text}
use Rattle.builtin_table.proofs.Facts.{spelled_utf8}
use Rattle.builtin_table.proofs.shown.decimal_text.Goals as goal

pub unreachable-requires : goal.unreachable-requires
unreachable-requires c =
    c.in-Err.ensures.cases.0 (subst IsUtf8 (sym c.print_dec-length.ensures.text) (spelled_utf8 (dec_text c.args.d) c.args.d c.print_dec-length.ensures.spells))
