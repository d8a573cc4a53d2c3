use Rattle.apex_types.proofs.Steps.{home_is}
use Rattle.apex_types.proofs.checker.home_of.Goals as goal

pub returns : goal.returns
returns c =
    let classes = c.args.classes.now in
    home_is c.args.words.now.schema.now.objects classes.objects.now.names.items classes.units.now _ _ c.args.members.now.tables _
    c.requires.objects_are c.names.ensures c.lines.ensures c.requires.members_are c.requires.methods_are
