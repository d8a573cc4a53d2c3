use Rattle.std.proofs.Common.{◌≡◌, ◌∙◌, ◌+◌, ◌<◌, Some, ap, sym, subst, take, length, arith}
use Rattle.std.specs.Char.{is_ascii_digit}
use Rattle.apex_lexer.specs.Lexemes.{front}
use Rattle.apex_lexer.specs.Scans.{Fits}
use Rattle.apex_lexer.proofs.Numbers.{long_goes, long_is, part_found, part_digits, whole_goes, within_fits}
use Rattle.apex_lexer.proofs.scan.behind_digits.Goals as goal

pub returns-then-begins_long : goal.returns-then-begins_long
returns-then-begins_long c =
    long_goes c.args.whole.now c.args.rest.now c.long.result (sym c.begins_long.ensures ∙ c.if-begins_long.true) (long_is c.args.whole.now c.long.result c.long.ensures)
    (subst (Fits (length c.args.whole.now + 1)) (sym c.long.ensures) (within_fits _ _ _ _ (λ e. cc) (omega arith)))

pub decimal-requires-clause-part : goal.decimal-requires-clause-part
decimal-requires-clause-part c = part_digits c.split_at.result.1.now c.digits_of-part.result.now c.digits_of-part.ensures

pub returns-then-begins_part : goal.returns-then-begins_part
returns-then-begins_part c =
    part_found c.args.whole.now c.args.rest.now c.digits_of-part.result.now c.decimal.result (sym c.begins_part.ensures ∙ c.if-begins_part.true)
    (c.digits_of-part.ensures ∙ ap (λ l. take (front is_ascii_digit l) l) c.split_at.ensures.back) c.decimal.ensures

pub returns : goal.returns
returns c =
    let none : length c.args.whole.now ≡ length c.args.whole.now + 0 = omega arith in
    let some : 0 < length c.args.whole.now = c.requires.some in
    whole_goes c.args.whole.now c.args.rest.now c.integer.result (sym c.begins_long.ensures ∙ c.if-begins_long.false) (sym c.begins_part.ensures ∙ c.if-begins_part.false) (ap Some (sym c.integer.ensures))
    (subst (λ n. Fits n c.integer.result) none (subst (Fits (length c.args.whole.now)) (sym c.integer.ensures) (within_fits _ _ _ _ (λ e. cc) some)))
