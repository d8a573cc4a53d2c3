use Rattle.std.proofs.Common.{sym, ap, ◌∙◌}
use Rattle.std.specs.Option.{option_copied}
use Rattle.save_stages.proofs.Writes.{prefix_at, write_does}
use Rattle.save_stages.proofs.writing.write.Goals as goal

pub write_next-requires-clause-prefix : goal.write_next-requires-clause-prefix
write_next-requires-clause-prefix c =
    prefix_at c.args.schema.now.objects c.args.run.now.object c.in-Some.object.now c.requires.sound.prefixes (sym c.get.ensures.value ∙ ap option_copied c.in-Some.is)

pub returns-in_ok-moved-in-Some : goal.returns-in_ok-moved-in-Some
returns-in_ok-moved-in-Some c =
    write_does c.args.schema.now c.args.ticket c.in-Some.object.now c.args.before c.args.left c.args.run.now c.args.txn.now c.in_ok-moved-in-Some.moved _ _ (sym c.get.ensures.value ∙ ap option_copied c.in-Some.is)
    c.in_ok-moved-in-Some.ensures
