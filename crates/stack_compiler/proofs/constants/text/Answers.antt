use Rattle.std.proofs.Common.{◌∙◌}
use Rattle.stack_compiler.proofs.Texts.{text_there, text_lacking, if_some, if_none}
use Rattle.stack_compiler.proofs.constants.text.Goals as goal

pub returns-in-Some : goal.returns-in-Some
returns-in-Some c =
    let p = if_some c.in_ok-text.field-0 c.in-Some.text _ c.in-Some.is c.in_ok-text.ensures.some in
    text_there c.in-Some.text c.in_ok-copied.copied.items c.args.bytes.now p.0 p.1 (c.in_ok-copied.ensures.items ∙ c.as_slice.ensures)

pub returns-in-None : goal.returns-in-None
returns-in-None c =
    text_lacking c.in_ok-copied.copied.items c.args.bytes.now (if_none c.in_ok-text.field-0 _ c.in-None.is c.in_ok-text.ensures.none) (c.in_ok-copied.ensures.items ∙ c.as_slice.ensures)
