use Rattle.std.proofs.Common.{◌≡◌, ℕ, ℤ, List, drop, sym, subst, true, false}
use Rattle.apex_num.specs.Decimals.{Spells, IsSize, signed}
use Rattle.apex_num.proofs.Reading.{dec_reads, dec_only, minus_spells, plain_spells, spells_minus, spells_plain}
use Rattle.apex_num.proofs.dec_text.read_dec.Goals as goal

minus_back : (text body : List ℕ) → body ≡ drop 1 text → ((c : ℤ) → Spells text c → (k : ℕ) × IsSize (drop 1 text) k × (c ≡ signed true k)) → (c : ℤ) → Spells text c → (k : ℕ) × IsSize body k × (c ≡ signed true k)
minus_back text body e back = subst (λ b. (c : ℤ) → Spells text c → (k : ℕ) × IsSize b k × (c ≡ signed true k)) (sym e) back

pub returns-then-begins_with_minus-clause-reads : goal.returns-then-begins_with_minus-clause-reads
returns-then-begins_with_minus-clause-reads c =
    let first = c.if-begins_with_minus.ensures in
    let e = c.split_at.ensures.back in
    dec_reads c.args.text.now c.split_at.result.1.now true c.read_size.result c.with_sign.result c.with_sign.ensures
    (λ k s. spells_minus c.args.text.now k first.0 first.1 (subst (λ b. IsSize b k) e s))
    (minus_back c.args.text.now c.split_at.result.1.now e (λ z. minus_spells c.args.text.now z first.1)) c.read_size.ensures

pub returns-then-begins_with_minus-clause-only : goal.returns-then-begins_with_minus-clause-only
returns-then-begins_with_minus-clause-only c =
    let first = c.if-begins_with_minus.ensures in
    let e = c.split_at.ensures.back in
    dec_only c.args.text.now c.split_at.result.1.now true c.read_size.result c.with_sign.result c.with_sign.ensures
    (λ k s. spells_minus c.args.text.now k first.0 first.1 (subst (λ b. IsSize b k) e s))
    (minus_back c.args.text.now c.split_at.result.1.now e (λ z. minus_spells c.args.text.now z first.1)) c.read_size.ensures

pub returns-clause-reads : goal.returns-clause-reads
returns-clause-reads c =
    dec_reads c.args.text.now c.args.text.now false c.read_size-2.result c.with_sign-2.result c.with_sign-2.ensures
    (spells_plain c.args.text.now) (λ z. plain_spells c.args.text.now z c.if-begins_with_minus.ensures) c.read_size-2.ensures

pub returns-clause-only : goal.returns-clause-only
returns-clause-only c =
    dec_only c.args.text.now c.args.text.now false c.read_size-2.result c.with_sign-2.result c.with_sign-2.ensures
    (spells_plain c.args.text.now) (λ z. plain_spells c.args.text.now z c.if-begins_with_minus.ensures) c.read_size-2.ensures
