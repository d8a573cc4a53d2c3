use Rattle.std.proofs.Common.{ap, map, subst, sym, arith, length-drop}
use Rattle.apex_lexer.specs.Reading.{shown}
use Rattle.apex_lexer.specs.Passes.{SoFar}
use Rattle.apex_lexer.proofs.Readings.{nothing_read, apart_more, says_more}
use Rattle.apex_lexer.proofs.lexer.pass.Goals as goal

pub loop-at-init : goal.loop-at-init
loop-at-init c = record {
  read = subst (SoFar c.args.text.now 0) (ap (map shown) (sym c.new-tokens.ensures.items)) (nothing_read c.args.text.now);
  within = omega arith;
  cursor = c.new-brackets.ensures.cursor c.args.text.now;
  behind = let e = c.new-brackets.ensures.at in omega arith;
}

pub loop-at-preserved-in-Apart : goal.loop-at-preserved-in-Apart
loop-at-preserved-in-Apart c = record {
  read = apart_more c.args.text.now c.loop-at.at c.in_ok-found.found.size (map shown c.loop-at.tokens.items) c.in_ok-found.found.lexeme c.loop-at.invariant.read c.in_ok-found.ensures.first c.in-Apart.ensures;
  within = let w = c.in_ok-found.ensures.first.within in let d = length-drop c.loop-at.at c.args.text.now in let t = c.loop-at-test.true in omega arith;
  cursor = c.in_ok-found.ensures.cursor;
  behind = let b = c.in_ok-found.ensures.at in omega arith;
}

pub loop-at-preserved : goal.loop-at-preserved
loop-at-preserved c = record {
  read = says_more c.args.text.now c.loop-at.at c.in_ok-found.found.size c.loop-at.tokens.items c.push.new.self.items c.in_ok-found.found.lexeme c.in-Says.token c.loop-at.invariant.read c.in_ok-found.ensures.first c.in-Says.ensures c.in_ok-push-in-Says.ensures.items;
  within = let w = c.in_ok-found.ensures.first.within in let d = length-drop c.loop-at.at c.args.text.now in let t = c.loop-at-test.true in omega arith;
  cursor = c.in_ok-found.ensures.cursor;
  behind = let b = c.in_ok-found.ensures.at in omega arith;
}
