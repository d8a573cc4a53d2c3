use Rattle.std.proofs.Common.{sym, subst}
use Rattle.std.specs.Str.{IsUtf8}
use Rattle.builtin_table.proofs.Facts.{id_utf8}
use Rattle.builtin_table.proofs.shown.id_text.Goals as goal

pub unreachable-requires : goal.unreachable-requires
unreachable-requires c = c.in-Err.ensures.cases.0 (subst IsUtf8 (sym c.id_18-long.ensures) (id_utf8 c.args.id.now c.bytes-told.ensures.form))
