use Rattle.std.proofs.Common.{◌≡◌, take, min}
use Rattle.std.specs.Str.Parse.{AllDigits, digits_value}
use Rattle.apex_num.proofs.dec_text.read_digits.Given as goal

abbrev pub invariant-loop-i : goal.invariant-loop-i
invariant-loop-i l = AllDigits 10 (take l.i l.text) × (l.value ≡ min (digits_value 10 (take l.i l.text)) 10000000000000)
