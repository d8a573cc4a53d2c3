use Rattle.std.proofs.Common.{◌≡◌, ◌+◌, ◌∙◌, ◌&&◌, not, eqb, true, false, Bool, refl, sym, subst, arith, get_or}
use Rattle.std.proofs.lemmas.Bool.{eqb-true}
use Rattle.apex_lexer.specs.Lexemes.{quoted}
use Rattle.apex_lexer.specs.Scans.{behind_first, IsLongest}
use Rattle.apex_lexer.proofs.Bools.{not_eqb, both}
use Rattle.apex_lexer.proofs.Literals.{TextSoFar, text_start, text_more, text_broken, text_closed, text_open}
use Rattle.apex_lexer.proofs.scan.quoted.Goals as goal

pub loop-i-init : goal.loop-i-init
loop-i-init c = text_start c.args.text.now

pub returns-then-b-eq10 : goal.returns-then-b-eq10
returns-then-b-eq10 c =
    subst (IsLongest (behind_first quoted) c.args.text.now) (sym c.open_text.ensures)
    (text_broken c.args.text.now c.loop-i.i c.loop-i-test.true c.loop-i.auto.i c.loop-i.escaped c.loop-i.bad c.if-b-eq10.true c.loop-i.invariant)

free : (x : Bool) → not x ≡ true → x ≡ false
free true e = cc
free false e = refl

pub returns-then-closes : goal.returns-then-closes
returns-then-closes c =
    let e = both (not c.loop-i.escaped) (eqb (get_or c.args.text.now c.loop-i.i 0) 39) (sym c.closes.ensures ∙ c.if-closes.true) in
    subst (IsLongest (behind_first quoted) c.args.text.now) (sym c.close_text.ensures)
    (text_closed c.args.text.now c.loop-i.i c.loop-i-test.true c.loop-i.auto.i c.loop-i.bad (eqb-true (get_or c.args.text.now c.loop-i.i 0) 39 e.1)
    (subst (λ x. TextSoFar c.args.text.now c.loop-i.i x c.loop-i.bad) (free c.loop-i.escaped e.0) c.loop-i.invariant))

pub loop-i-preserved : goal.loop-i-preserved
loop-i-preserved c =
    let s = text_more c.args.text.now c.loop-i.i c.loop-i-test.true c.loop-i.auto.i c.loop-i.escaped c.loop-i.bad (not_eqb (get_or c.args.text.now c.loop-i.i 0) 10 c.if-b-eq10.false) (sym c.closes.ensures ∙ c.if-closes.false) c.loop-i.invariant in
    let i = c.loop-i.i + 1 in
    let b = get_or c.args.text.now c.loop-i.i 0 in
    subst (λ x. TextSoFar c.args.text.now i x c.note_escape-bad.result) (sym c.escapes-escaped.ensures) (subst (λ x. TextSoFar c.args.text.now i (not c.loop-i.escaped && eqb b 92) x) (sym c.note_escape-bad.ensures) s)

pub returns : goal.returns
returns c =
    subst (IsLongest (behind_first quoted) c.args.text.now) (sym c.open_text-2.ensures)
    (text_open c.args.text.now c.loop-i.i c.loop-i.escaped c.loop-i.bad c.requires (let t = c.loop-i-test.false in let l = c.loop-i.auto.i-end in let r = c.requires in omega arith) c.loop-i.invariant)
