use Rattle.std.proofs.Common.{refl}
use Rattle.commands.proofs.Blocks.{if_ok, program_in, only_of, ill_typed}
use Rattle.commands.proofs.exec.judged.Goals as goal

pub ran-requires-clause-block : goal.ran-requires-clause-block
ran-requires-clause-block c =
    (c.in-Ok.field-0.now, c.in-Ok.ensures, only_of c.args.bytes.now c.args.tree.now c.in_ok-program.program c.in-Ok.field-0.now c.requires.tree (program_in _ c.args.tree.now c.in_ok-program.program c.in_ok-schema.ensures c.in_ok-program.ensures) c.in-Ok.ensures)

pub returns : goal.returns
returns c =
    let judged = program_in _ c.args.tree.now c.in_ok-program.program c.in_ok-schema.ensures c.in_ok-program.ensures in
    if_ok _ _ c.ill_typed.result (λ made is. ill_typed _ _ c.args.bytes.now c.args.tree.now c.in_ok-program.program c.in-Err.fault.now made c.requires.tree judged c.in-Err.ensures is refl c.requires.image) c.ill_typed.ensures
