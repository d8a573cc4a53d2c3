use Rattle.std.proofs.Common.{Some, sym, ap, ◌∙◌}
use Rattle.std.specs.Prelude.{slice_get}
use Rattle.program_things.specs.Kinds.{told_as}
use Rattle.program_things.proofs.Messages.{put_there}
use Rattle.program_things.proofs.things.put_message.Goals as goal

pub returns-in-Some : goal.returns-in-Some
returns-in-Some c =
    c.replace.ensures ∙ put_there c.args.message.now c.args.on.place c.args.heap.now c.in-Some.thing
    (sym (c.in_ok-thing.ensures ∙ ap (told_as c.args.message.now) c.get.ensures) ∙ c.in-Some.is)
