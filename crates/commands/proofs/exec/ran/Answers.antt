use Rattle.std.proofs.Common.{[], Ok, refl, subst, sym}
use Rattle.commands.proofs.Blocks.{made_of, runs_in}
use Rattle.commands.specs.Exec.{program_of, schema, ticket}
use Rattle.stack_code.specs.Checked.{IsChecked}
use Rattle.stack_code.specs.Means.{Means}
use Rattle.commands.proofs.exec.ran.Goals as goal

pub returns : goal.returns
returns c =
    let reply = c.in_ok-reply.reply in
    let writes = c.in_ok-reply.field-0-1 in
    let kept = c.in_ok-kept.kept in
    let block = c.requires.block.0 in
    let at = c.requires.block.1 in
    let means = subst (λ p. Means p kept) at (subst (λ i. Means c.args.program.now i) (sym c.in_ok-kept.ensures.image) (c.laws_of_images.ensures.means c.args.program.now)) in
    let runs = runs_in _ _ kept reply writes c.requires.schema c.ticket.ensures c.in_ok-reply.ensures in
    let comes = c.laws_of_blocks.ensures.evaluates schema (program_of (Ok block)) ticket kept 0 block [] reply writes means refl runs in
    made_of c.in_ok-made.made c.args.bytes.now block kept c.keep.new.image c.args.image.now reply writes c.requires.block.2 means runs comes c.in_ok-made.ensures c.keep.ensures c.requires.image

pub run_alone-requires-clause-checked : goal.run_alone-requires-clause-checked
run_alone-requires-clause-checked c = subst IsChecked (sym c.in_ok-kept.ensures.image) (c.laws_of_images.ensures.means c.args.program.now).checked
