use Rattle.std.proofs.Common.{rules, ◌≡◌, ◌≤◌, [], drop, length, Some, Err}
use Rattle.formula_rules.specs.Tokens.{behind, is_blank, token_at}
use Rattle.formula_rules.proofs.Runs.{one_token, all_tokens, no_tokens}
use Rattle.formula_rules.proofs.scan.tokens_of.Goals as goal

pub returns-in_err-next : goal.returns-in_err-next
returns-in_err-next c =
    let e : c.from_residual.result ≡ Err c.in_err-next.field-0.0 = search rules in
    rw e (no_tokens c.args.text.now c.loop-tokens.tokens c.loop-tokens.at c.loop-tokens.invariant c.in_err-next.field-0.0 c.in_err-next.ensures.next)

pub returns-in-None : goal.returns-in-None
returns-in-None c =
    let end : behind is_blank (drop c.loop-tokens.at c.args.text.now) ≡ [] = search rules in
    all_tokens c.args.text.now c.loop-tokens.tokens c.loop-tokens.at c.loop-tokens.invariant end

pub loop-tokens-preserved : goal.loop-tokens-preserved
loop-tokens-preserved c =
    let text = c.args.text.now in
    let short : c.in-Some.end ≤ length text = search rules in
    let next : token_at (behind is_blank (drop c.loop-tokens.at text)) ≡ Some (c.in-Some.token, drop c.in-Some.end text) = search rules in
    rw c.in_ok-push-in-Some.ensures.ok (one_token text c.loop-tokens.tokens c.loop-tokens.at c.loop-tokens.invariant c.in-Some.token c.in-Some.end short next)
