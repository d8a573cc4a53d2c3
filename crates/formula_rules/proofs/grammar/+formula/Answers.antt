use Rattle.std.proofs.Common.{rules, arith, ◌≡◌, ◌-◌, ◌∷◌, ◌++◌, [], Err, suc, sym, subst}
use Rattle.apex_schema.specs.declared.rule.Rule.TheVariants.{And, Or, IsBlank, IsChanged}
use Rattle.formula_rules.specs.Grammar.{IsComparison, IsInside, IsFormulaWithin}
use Rattle.formula_rules.specs.Readings.{is_unopened, Told}
use Rattle.formula_rules.proofs.Told.{no_field, call_fails, call_told}
use Rattle.formula_rules.proofs.Eaches.{none_first, none_next, begun, one_more, ended}
use Rattle.formula_rules.proofs.Formulas.{flat, call_formula, term_formula, plain_formula, no_each, no_not}
use Rattle.formula_rules.proofs.grammar.+formula.Goals as goal

pub call-returns-in_err-rule-clause-told : goal.call-returns-in_err-rule-clause-told
call-returns-in_err-rule-clause-told t c =
    let names = c.args.fields.now.names.items in
    let e : c.from_residual.result ≡ Err c.in_err-rule.field-0.0 = search rules in
    rw e (call_fails (IsInside names (IsFormulaWithin names (c.args.room - 1))) c.args.tokens.now c.args.at c.args.function c.args.inside c.requires.opens c.in_err-rule.field-0.0 c.in_err-rule.ensures.told)

pub call-returns-clause-told : goal.call-returns-clause-told
call-returns-clause-told t c =
    let names = c.args.fields.now.names.items in
    call_told (IsInside names (IsFormulaWithin names (c.args.room - 1))) c.args.tokens.now c.args.at c.args.function c.args.inside c.requires.opens c.in_ok-rule.rule c.in_ok-rule.end c.in_ok-behind.behind
    c.in_ok-rule.ensures.told c.in_ok-behind.ensures.at

pub each-returns-in_err-first-clause-told : goal.each-returns-in_err-first-clause-told
each-returns-in_err-first-clause-told t c =
    let e : c.from_residual.result ≡ Err c.in_err-first.field-0.0 = search rules in
    rw e (none_first (IsFormulaWithin c.args.fields.now.names.items c.args.room) c.args.tokens.now c.args.at c.in_err-first.field-0.0 c.in_err-first.ensures.told)

pub each-loop-behind-init : goal.each-loop-behind-init
each-loop-behind-init t c =
    let one : c.push.new.self ≡ c.in_ok-first.first ∷ [] = search rules in
    record {
      so_far = rw one (begun (IsFormulaWithin c.args.fields.now.names.items c.args.room) c.args.tokens.now c.args.at c.in_ok-first.first c.in_ok-first.end c.in_ok-first.ensures.told);
      on = omega (arith, c.in_ok-first.ensures.on);
      within = omega (arith, c.in_ok-first.ensures.on);
    }

pub each-returns-in_err-rule-clause-told : goal.each-returns-in_err-rule-clause-told
each-returns-in_err-rule-clause-told t c =
    let e : c.from_residual-in_err-rule.result ≡ Err c.in_err-rule.field-0.0 = search rules in
    rw e (none_next (IsFormulaWithin c.args.fields.now.names.items c.args.room) c.args.tokens.now c.args.at c.loop-behind.rules c.loop-behind.end c.loop-behind.invariant.so_far c.in-Some.behind c.in-Some.ensures.at
    c.in_err-rule.field-0.0 c.in_err-rule.ensures.told)

pub each-loop-behind-preserved : goal.each-loop-behind-preserved
each-loop-behind-preserved t c =
    let more : c.push-in-Some.new.self ≡ c.loop-behind.rules ++ c.in_ok-rule.rule ∷ [] = search rules in
    record {
      so_far = rw more (one_more (IsFormulaWithin c.args.fields.now.names.items c.args.room) c.args.tokens.now c.args.at c.loop-behind.rules c.loop-behind.end c.loop-behind.invariant.so_far c.in-Some.behind c.in-Some.ensures.at
          c.in_ok-rule.rule c.in_ok-rule.next c.in_ok-rule.ensures.told);
      on = omega (arith, c.in-Some.ensures.on, c.in_ok-rule.ensures.on, c.loop-behind.invariant.on);
      within = omega (arith, c.in_ok-rule.ensures.on);
    }

pub each-returns-clause-told : goal.each-returns-clause-told
each-returns-clause-told t c =
    ended (IsFormulaWithin c.args.fields.now.names.items c.args.room) c.args.tokens.now c.args.at c.loop-behind.rules c.loop-behind.end c.loop-behind.invariant.so_far (search rules)

pub formula-returns-then-room-eq0-clause-told : goal.formula-returns-then-room-eq0-clause-told
formula-returns-then-room-eq0-clause-told t c =
    let names = c.args.fields.now.names.items in
    let none : c.args.room ≡ 0 = omega arith in
    subst (λ n. Told (IsFormulaWithin names n) is_unopened c.args.tokens.now c.args.at c.comparison.result) (sym none)
    (flat names c.args.tokens.now c.args.at c.comparison.result (subst (λ n. Told (IsComparison names n) is_unopened c.args.tokens.now c.args.at c.comparison.result) none c.comparison.ensures.told))

pub formula-returns-then-is_of_formulas-clause-told : goal.formula-returns-then-is_of_formulas-clause-told
formula-returns-then-is_of_formulas-clause-told t c =
    let names = c.args.fields.now.names.items in
    let some : suc (c.args.room - 1) ≡ c.args.room = omega arith in
    subst (λ n. Told (IsFormulaWithin names n) is_unopened c.args.tokens.now c.args.at c.call.result) some
    (call_formula names (c.args.room - 1) c.args.tokens.now c.args.at c.call.result c.in-Some.function c.in-Some.inside c.in-Some.ensures.at (search rules) c.call.ensures.told)

pub formula-returns-else-is_of_formulas-clause-told : goal.formula-returns-else-is_of_formulas-clause-told
formula-returns-else-is_of_formulas-clause-told t c =
    let names = c.args.fields.now.names.items in
    let some : suc (c.args.room - 1) ≡ c.args.room = omega arith in
    let answer = c.comparison-else-is_of_formulas.result in
    subst (λ n. Told (IsFormulaWithin names n) is_unopened c.args.tokens.now c.args.at answer) some
    (term_formula names (c.args.room - 1) c.args.tokens.now c.args.at answer c.in-Some.function c.in-Some.inside c.in-Some.ensures.at (search rules)
    (subst (λ n. Told (IsComparison names n) is_unopened c.args.tokens.now c.args.at answer) (sym some) c.comparison-else-is_of_formulas.ensures.told))

pub formula-returns-in-None-clause-told : goal.formula-returns-in-None-clause-told
formula-returns-in-None-clause-told t c =
    let names = c.args.fields.now.names.items in
    let some : suc (c.args.room - 1) ≡ c.args.room = omega arith in
    let answer = c.comparison-in-None.result in
    subst (λ n. Told (IsFormulaWithin names n) is_unopened c.args.tokens.now c.args.at answer) some
    (plain_formula names (c.args.room - 1) c.args.tokens.now c.args.at answer (search rules)
    (subst (λ n. Told (IsComparison names n) is_unopened c.args.tokens.now c.args.at answer) (sym some) c.comparison-in-None.ensures.told))

pub inside_of-returns-in_err-rules-in-And-clause-told : goal.inside_of-returns-in_err-rules-in-And-clause-told
inside_of-returns-in_err-rules-in-And-clause-told t c =
    let names = c.args.fields.now.names.items in
    let e : c.from_residual.result ≡ Err c.in_err-rules-in-And.field-0.0 = search rules in
    rw (c.in-And.is, e) (no_each names (IsFormulaWithin names c.args.room) c.args.tokens.now c.args.at c.in_err-rules-in-And.field-0.0 And c.in_err-rules-in-And.ensures.told)

pub inside_of-returns-in_err-rules-in-Or-clause-told : goal.inside_of-returns-in_err-rules-in-Or-clause-told
inside_of-returns-in_err-rules-in-Or-clause-told t c =
    let names = c.args.fields.now.names.items in
    let e : c.from_residual-in_err-rules-in-Or.result ≡ Err c.in_err-rules-in-Or.field-0.0 = search rules in
    rw (c.in-Or.is, e) (no_each names (IsFormulaWithin names c.args.room) c.args.tokens.now c.args.at c.in_err-rules-in-Or.field-0.0 Or c.in_err-rules-in-Or.ensures.told)

pub inside_of-returns-in_err-inner-in-Not-clause-told : goal.inside_of-returns-in_err-inner-in-Not-clause-told
inside_of-returns-in_err-inner-in-Not-clause-told t c =
    let names = c.args.fields.now.names.items in
    let e : c.from_residual-in_err-inner-in-Not.result ≡ Err c.in_err-inner-in-Not.field-0.0 = search rules in
    rw (c.in-Not.is, e) (no_not names (IsFormulaWithin names c.args.room) c.args.tokens.now c.args.at c.in_err-inner-in-Not.field-0.0 c.in_err-inner-in-Not.ensures.told)

pub inside_of-returns-in_err-n-in-IsBlank-clause-told : goal.inside_of-returns-in_err-n-in-IsBlank-clause-told
inside_of-returns-in_err-n-in-IsBlank-clause-told t c =
    let e : c.from_residual-in_err-n-in-IsBlank.result ≡ Err c.in_err-n-in-IsBlank.field-0.0 = search rules in
    rw (c.in-IsBlank.is, e) (no_field c.args.fields.now.names.items IsBlank c.args.tokens.now c.args.at c.in_err-n-in-IsBlank.field-0.0 c.in_err-n-in-IsBlank.ensures.told)

pub inside_of-returns-in_err-n-in-IsChanged-clause-told : goal.inside_of-returns-in_err-n-in-IsChanged-clause-told
inside_of-returns-in_err-n-in-IsChanged-clause-told t c =
    let e : c.from_residual-in_err-n-in-IsChanged.result ≡ Err c.in_err-n-in-IsChanged.field-0.0 = search rules in
    rw (c.in-IsChanged.is, e) (no_field c.args.fields.now.names.items IsChanged c.args.tokens.now c.args.at c.in_err-n-in-IsChanged.field-0.0 c.in_err-n-in-IsChanged.ensures.told)
