use Rattle.std.proofs.Common.{◌≡◌, ◌+◌, ◌^◌, ◌<◌, ◌≤◌, ◌++◌, ◌∷◌, length, take, drop}
use Rattle.apex_num.specs.Decimals.{part_digits}
use Rattle.apex_num.proofs.dec_text.print_part.Given as goal

abbrev pub invariant-loop-rest : goal.invariant-loop-rest
invariant-loop-rest l = (l.k ≤ 6) × (l.rest < 10 ^ l.k) × (l.end + l.k ≡ l.at + 7) × (length l.into ≡ length l.fn.into)
    × (take l.end l.into ++ part_digits l.k l.rest ≡ take l.at l.fn.into ++ 46 ∷ part_digits 6 l.fn.rest)
    × (drop l.end l.into ≡ drop l.end l.fn.into)

abbrev pub decreases-loop-rest : goal.decreases-loop-rest
decreases-loop-rest l = l.k
