use Rattle.std.proofs.Common.{◌≡◌, false, [], refl, sym, ◌∙◌, subst}
use Rattle.save_statements.specs.Statements.{failed_in}
use Rattle.save_chunks.proofs.Failing.{none_failed, none_found}
use Rattle.save_chunks.proofs.outcomes.or_failed.Goals as goal

pub returns-then-not-has_failed : goal.returns-then-not-has_failed
returns-then-not-has_failed c = (none_failed c.args.told (subst (λ ts. failed_in ts ≡ []) c.as_slice.ensures (c.has_failed.ensures.0 c.if-not-has_failed.true)), refl)

pub unreachable-requires : goal.unreachable-requires
unreachable-requires c =
    let none : c.has_failed.result ≡ false = c.has_failed.ensures.1 (subst (λ ts. failed_in ts ≡ []) (sym c.as_slice.ensures) (none_found c.args.told (sym c.first_failed.ensures ∙ c.in-None.is))) in
    cc (none, c.if-not-has_failed.false)
