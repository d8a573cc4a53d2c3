-- Units as charges (docs/platform.md, "Limits").
use Rattle.std.specs.Prelude.{ℕ, ◌-◌, ◌^◌, min}

-- a number of 64 bits; the greatest stands for more, and no limit is as great
abbrev pub capped : ℕ → ℕ
capped n = min n (2 ^ 64 - 1)
