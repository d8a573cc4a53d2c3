use Rattle.std.proofs.Common.{take}
use Rattle.save_requests.specs.Saves.{OnlyRecords}
use Rattle.save_requests.proofs.records.records.Given as goal

abbrev pub invariant-rows : goal.invariant-rows
invariant-rows l = OnlyRecords l.fields (take l.i l.rows) l.all
