use Rattle.commands.proofs.turns.made.Goals as goal

pub ran-requires : goal.ran-requires
ran-requires c = c.laws_of_bundles.ensures.bounds c.args.bytes.now c.in-Ok.bundle c.in-Ok.ensures.reads
