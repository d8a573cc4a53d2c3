use Rattle.std.proofs.Common.{ap, sym, subst, ◌∙◌, length}
use Rattle.record_store.specs.Heaps.{rows_in}
use Rattle.record_store.specs.Places.{answer_to}
use Rattle.tenant_shards.specs.Logs.{IsStaleAt}
use Rattle.tenant_shards.proofs.Logs.{one_more, stale}
use Rattle.tenant_shards.proofs.stale.first_stale.Goals as goal

pub returns-then-not-same_answer-clause-tells : goal.returns-then-not-same_answer-clause-tells
returns-then-not-same_answer-clause-tells c =
    let rows = rows_in c.args.tenant c.args.store.now.tenants in
    let qs = c.as_slice-asked.result.now in
    let gs = c.as_slice-answers.result.now in
    let q = c.index-asked-k.result in
    let g = c.index-answers-k.result in
    let now = c.in_ok-answer.ensures.answer ∙ ap (λ ts. answer_to (rows_in c.args.tenant ts) q) c.asked.invariant.1 in
    let long = ap length c.as_slice-asked.ensures ∙ c.requires ∙ sym (ap length c.as_slice-answers.ensures) in
    subst (λ x. IsStaleAt rows x c.args.log.now.answers c.asked.k) c.as_slice-asked.ensures
    (subst (λ y. IsStaleAt rows qs y c.asked.k) c.as_slice-answers.ensures
    (stale rows c.asked.k qs gs q g c.asked-test.true long c.index-asked-k.is c.index-answers-k.is (λ e. c.if-not-same_answer.ensures (e ∙ sym now)) c.asked.invariant.0))

pub asked-preserved : goal.asked-preserved
asked-preserved c =
    let rows = rows_in c.args.tenant c.args.store.now.tenants in
    let q = c.index-asked-k.result in
    let now = c.in_ok-answer.ensures.answer ∙ ap (λ ts. answer_to (rows_in c.args.tenant ts) q) c.asked.invariant.1 in
    let long = ap length c.as_slice-asked.ensures ∙ c.requires ∙ sym (ap length c.as_slice-answers.ensures) in (
      one_more rows c.asked.k c.as_slice-asked.result.now c.as_slice-answers.result.now q c.index-answers-k.result c.asked-test.true long c.index-asked-k.is c.index-answers-k.is (c.if-not-same_answer.ensures ∙ now) c.asked.invariant.0,
      c.in_ok-answer.ensures.tenants ∙ c.asked.invariant.1,
    )
