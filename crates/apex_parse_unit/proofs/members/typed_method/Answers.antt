use Rattle.std.proofs.Common.{ap, ◌∙◌}
use Rattle.apex_syntax.specs.declared.unit.ResultTree.TheVariants.{«Type»}
use Rattle.apex_parse_unit.proofs.Methods.{answered_by}
use Rattle.apex_parse_unit.proofs.members.typed_method.Goals as goal

pub returns : goal.returns
returns c = answered_by c.args.room c.args.name (c.in_ok-answer.ensures ∙ ap «Type» c.into_value.ensures) c.method_rest.ensures
