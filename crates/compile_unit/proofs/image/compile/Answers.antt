use Rattle.std.proofs.Common.{◌≡◌, map, ap, ◌∙◌}
use Rattle.stack_code.specs.Code.{block_code}
use Rattle.stack_code.specs.Images.{block_of, code}
use Rattle.typed_program.specs.declared.unit.TypedClass.{TypedClass}
use Rattle.typed_program.specs.declared.unit.TypedTrigger.{TypedTrigger}
use Rattle.compile_unit.proofs.Images.{image_is}
use Rattle.compile_unit.proofs.image.compile.Goals as goal

-- src/image.rt:45:1
pub returns : goal.returns
returns c = record {
  image = image_is c.args.program.now c.in_ok-layout.layout.program.now _ _ _ _ _
      c.in_ok-layout.ensures
      (c.in_ok-names.ensures ∙ ap (map (λ (k : TypedClass). k.name)) c.as_slice.ensures)
      c.in_ok-classes.ensures
      (c.in_ok-triggers.ensures ∙ ap (map (λ (t : TypedTrigger). code (block_code c.in_ok-layout.layout.program.now t.body))) c.as_slice-2.ensures)
      c.in_ok-firings.ensures
      (c.in_ok-blocks.ensures ∙ ap (map (block_of c.in_ok-layout.layout.program.now)) c.as_slice-3.ensures);
}
