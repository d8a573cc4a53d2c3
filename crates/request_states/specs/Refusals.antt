-- Requests that are refused (docs/platform.md, "Refused requests").
use Rattle.std.specs.Prelude.{[], codes}
use Rattle.fault_words.specs.declared.fault.Fault.{Fault}
use Rattle.fault_words.specs.declared.fault.FaultWord.TheVariants.{NotYet}
use Rattle.apex_requests.specs.declared.reply.Counts.{Counts}
use Rattle.apex_requests.specs.declared.reply.Outcome.TheVariants.{Refused}
use Rattle.apex_requests.specs.declared.reply.Reply.{Reply}
use Rattle.apex_rows.specs.declared.row.Writes.{Writes}

-- nothing is charged, and nothing written
abbrev pub no_counts : Counts
no_counts = record { queries = 0; rows = 0; dml = 0; saved = 0; steps = 0 }

abbrev pub no_writes : Writes
no_writes = record { puts = []; drops = [] }

abbrev pub refusal : Fault → Reply
refusal fault = record { outcome = Refused fault; debug = []; counts = no_counts; ops = 0 }

-- what isn't built yet
abbrev pub not_yet : Fault
not_yet = record { place = codes "block 1:1"; word = NotYet }
