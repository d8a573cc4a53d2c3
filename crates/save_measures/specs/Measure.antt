-- How many moves of a statement may come (docs/platform.md, "Saves").
use Rattle.std.specs.Prelude.{ℕ, ◌+◌, ◌*◌, Bool, true, false, List, [], ◌∷◌, length}
use Rattle.save_statements.specs.declared.pending.Act.{Act}
use Rattle.save_statements.specs.declared.run.Phase.TheVariants as P
use Rattle.save_statements.specs.declared.run.Stage.{Stage}
use Rattle.save_statements.specs.declared.run.Stage.TheVariants as S
use Rattle.save_statements.specs.declared.run.SaveRun.{SaveRun}
use Rattle.save_statements.specs.declared.statement.Chunk.{Chunk}
use Rattle.save_statements.specs.Statements.{placed, chunks}
use Rattle.save_statements.specs.declared.firing.Trigger.{Trigger}

-- the triggers of an object for an act, before or behind the write
abbrev pub Triggers : Type 0
Triggers = ℕ → Act → Bool → List Trigger

module _ (triggers : Triggers) where
  -- the triggers that fire before and behind the write of records of an object
  abbrev pub before : ℕ → Act → ℕ
  before object act = length (triggers object act true)

  abbrev pub behind : ℕ → Act → ℕ
  behind object act = length (triggers object act false)

  -- more than an attempt at so many records may take
  abbrev pub attempt : ℕ → Act → ℕ → ℕ
  attempt object act rows = 16 + before object act + behind object act + rows

  -- a chunk may have three of them
  abbrev pub all_chunks : ℕ → List Chunk → ℕ
  all_chunks object [] = 0
  all_chunks object (c ∷ cs) = 3 * attempt object c.act (length c.rows) + all_chunks object cs

  -- what is left of an attempt, by the triggers before and behind
  abbrev pub of_stage : Stage → SaveRun → ℕ → ℕ → ℕ
  of_stage (S.Charge rows) run b a = 3 + all_chunks run.object (chunks run.op (placed 0 rows))
  of_stage (S.Count rows) run b a = 2 + all_chunks run.object (chunks run.op (placed 0 rows))
  of_stage S.Next run b a = 1 + all_chunks run.object run.chunks
  of_stage S.Begin run b a = 15 + b + a + length run.rows
  of_stage (S.Load answers) run b a = 14 + b + a + length run.rows
  of_stage (S.Enter P.Refer rs) run b a = 13 + b + a + length rs
  of_stage (S.Refer rs answers) run b a = 12 + b + a + length rs
  of_stage (S.Enter P.Before rs) run b a = 11 + b + a + length rs
  of_stage (S.Fire true ts es) run b a = 10 + length ts + a + length es
  of_stage (S.Enter P.Validate rs) run b a = 9 + a + length rs
  of_stage (S.Validate rs answers) run b a = 8 + a + length rs
  of_stage (S.Enter P.Write rs) run b a = 7 + a + length rs
  of_stage (S.Write written rs) run b a = 6 + a + length rs
  of_stage (S.Enter P.After rs) run b a = 5 + a
  of_stage (S.Fire false ts es) run b a = 4 + length ts
  of_stage (S.Enter P.RollUp rs) run b a = 3
  of_stage (S.Settle rs) run b a = 2

  -- the attempts and the chunks behind it
  abbrev pub to_come : Stage → SaveRun → ℕ
  to_come (S.Charge rows) run = 0
  to_come (S.Count rows) run = 0
  to_come S.Next run = 0
  to_come _ run = run.left * attempt run.object run.act (length run.rows) + all_chunks run.object run.chunks

  -- more than the moves that may come, firings among them
  abbrev pub weight : SaveRun → ℕ
  weight run = of_stage run.stage run (before run.object run.act) (behind run.object run.act) + to_come run.stage run
