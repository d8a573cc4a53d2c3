use Rattle.std.proofs.Common.{rules, ◌≡◌, codes, drop, take}
use Rattle.record_ids.proofs.Steps.{last_four, user_is}
use Rattle.record_ids.proofs.ids.user_number.Goals as goal

pub number-requires : goal.number-requires
number-requires c =
    let back : c.split_at.result.1.now ≡ drop 11 c.args.id.now = search rules in
    let last = last_four c.args.id.now c.split_at.result.1.now c.bytes-bytes.ensures.form back in
    record { count = last.0; form = last.1 }

pub returns-in_default : goal.returns-in_default
returns-in_default c =
    let front : c.split_at.result.0.now ≡ take 11 c.args.id.now = search rules in
    let back : c.split_at.result.1.now ≡ drop 11 c.args.id.now = search rules in
    let zeros : c.split_at.result.0.now ≡ codes "00500000000" = search rules in
    let some : c.number.result ≡ 0 → ⊥ = search rules in
    user_is c.args.id.now c.split_at.result.0.now c.split_at.result.1.now c.number.result front back zeros c.number.ensures.value some c.number.ensures.small
