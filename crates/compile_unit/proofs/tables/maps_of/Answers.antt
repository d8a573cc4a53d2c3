use Rattle.std.proofs.Common.{◌∙◌, ap, length, arith}
use Rattle.std.proofs.lemmas.List.{length_push}
use Rattle.typed_program.specs.declared.unit.TypedClass.{TypedClass}
use Rattle.compile_unit.specs.Keys.{place_of}
use Rattle.compile_unit.proofs.MethodSteps.{one_class_more}
use Rattle.compile_unit.proofs.tables.maps_of.Goals as goal

pub loop-class-preserved : goal.loop-class-preserved
loop-class-preserved c =
    let done = c.loop-class.maps.items in
    let added = c.in_ok-map_of.field-0 in
    let k : TypedClass = c.class-item.result in
    let new = c.in_ok-push.ensures.items in
    let more = length_push done added in
    let size = c.loop-class.invariant.0 in (
      ap length new ∙ omega (arith, more, size),
      λ d n. one_class_more done c.push.new.self.items c.as_slice-class-items.result.now c.args.program.now.classes added k c.loop-class.class-index n
          c.as_slice-class-items.ensures c.loop-class-test.true c.class-item.is new size (λ j. c.loop-class.invariant.1 j n) (c.in_ok-map_of.ensures n ∙ ap (λ l. place_of n l) c.as_slice.ensures) d,
    )
