use Rattle.std.proofs.Common.{◌&&◌, ◌+◌, sym, ap, ◌∙◌, bytes_eq}
use Rattle.apex_text.specs.Fold.{folded}
use Rattle.schema_names.specs.Names.{or_at}
use Rattle.schema_plans.specs.Plans.{is_number}
use Rattle.schema_build.proofs.NumberSteps.{one_number_more}
use Rattle.schema_build.proofs.numbers.numbers_among.Goals as goal

pub loop-i-preserved : goal.loop-i-preserved
loop-i-preserved c = λ n.
    let f = c.index-fields-i.result in
    c.in_ok-add_number.ensures n ∙ ap (λ p. or_at p (is_number f.kind && bytes_eq (folded f.name) n) (c.loop-i.i + 2)) (c.loop-i.invariant n) ∙ sym (one_number_more c.args.fields.now c.loop-i.i f n c.loop-i-test.true c.index-fields-i.is)
