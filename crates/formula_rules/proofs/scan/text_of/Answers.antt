use Rattle.std.proofs.Common.{rules, ◌≡◌, sym, ap, ◌∙◌, Some}
use Rattle.std.specs.Str.{IsUtf8}
use Rattle.formula_rules.specs.Tokens.{text_of}
use Rattle.formula_rules.proofs.Runs.{is_text, no_text}
use Rattle.formula_rules.proofs.scan.text_of.Goals as goal

pub returns-in-Some : goal.returns-in-Some
returns-in-Some c =
    let items = c.in_ok-from_slice.field-0.items in
    let same : items ≡ c.args.bytes.now = c.in_ok-from_slice.ensures.items in
    let some : (c.in-Some.text ≡ items) × IsUtf8 items = search rules in
    ap text_of (sym same) ∙ is_text items some.1 ∙ ap Some (sym some.0)

pub returns-in-None : goal.returns-in-None
returns-in-None c =
    let items = c.in_ok-from_slice.field-0.items in
    let same : items ≡ c.args.bytes.now = c.in_ok-from_slice.ensures.items in
    let none : IsUtf8 items → ⊥ = search rules in
    ap text_of (sym same) ∙ no_text items none
