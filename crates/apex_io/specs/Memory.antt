-- What contracts see of a source and of a sink in memory.
use Rattle.std.specs.Prelude.{ℕ, List}

-- the bytes that are left, the most that one call gives, the calls and faults so far, and the calls that are to fail
pub record SourceState : Type 0 where
  pub left : List ℕ
  pub most : ℕ
  pub calls : ℕ
  pub faults : ℕ
  pub failing : List ℕ

-- the bytes that are held, the most that one call takes, the calls and faults so far, and the calls that are to fail
pub record SinkState : Type 0 where
  pub held : List ℕ
  pub most : ℕ
  pub calls : ℕ
  pub faults : ℕ
  pub failing : List ℕ
