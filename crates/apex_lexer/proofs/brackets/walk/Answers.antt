use Rattle.std.proofs.Common.{◌<◌, ap, ◌∙◌, refl, get_or, arith, take, length}
use Rattle.std.proofs.lemmas.List.{length-take-le}
use Rattle.apex_lexer.specs.declared.brackets.Part.TheVariants.{Code}
use Rattle.apex_lexer.specs.Brackets.{opened_by}
use Rattle.apex_lexer.proofs.Unclosed.{opened_most, part_more, opened_more}
use Rattle.apex_lexer.proofs.brackets.walk.Goals as goal

pub count-depth-requires : goal.count-depth-requires
count-depth-requires c =
    let m = opened_most Code 0 (take c.loop-i.i c.args.text.now) in
    let n = length-take-le c.loop-i.i c.args.text.now (let t = c.loop-i-test.true in let w = c.requires.to in omega arith) in
    let e = c.loop-i.invariant.depth in
    omega arith

pub loop-i-preserved : goal.loop-i-preserved
loop-i-preserved c =
    let lt : c.loop-i.i < length c.args.text.now = let t = c.loop-i-test.true in let w = c.requires.to in omega arith in
    let b = get_or c.args.text.now c.loop-i.i 0 in record {
      part = part_more c.args.text.now c.loop-i.i c.loop-i.part c.part_after-part.result b lt refl c.loop-i.invariant.part c.part_after-part.ensures;
      depth = opened_more c.args.text.now c.loop-i.i c.loop-i.part c.loop-i.depth c.count-depth.result b lt refl c.loop-i.invariant.part c.loop-i.invariant.depth (c.count-depth.ensures ∙ ap (λ k. opened_by k c.loop-i.depth) c.bracket_at.ensures);
    }
