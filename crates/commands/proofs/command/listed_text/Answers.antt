use Rattle.std.proofs.Common.{map, string_bytes, subst}
use Rattle.turn_lists.specs.Lists.{IsCommand, IsNone}
use Rattle.commands.proofs.command.listed_text.Goals as goal

pub unreachable-requires : goal.unreachable-requires
unreachable-requires g c = subst (IsNone (IsCommand (map string_bytes c.args.words.now))) c.in-Err-NotTurns.field-0-is c.in-Err-NotTurns.ensures c.requires.listed.0 c.requires.listed.1
