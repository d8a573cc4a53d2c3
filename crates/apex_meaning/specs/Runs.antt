-- What a block comes to on a tape of answers (docs/language.md, "What code does").
use Rattle.std.specs.Prelude.{ℕ, List, [], map, Option, None, Some}
use Rattle.activations.specs.declared.abrupt.Abrupt.{Abrupt}
use Rattle.activations.specs.declared.abrupt.Abrupt.TheVariants.{Throws}
use Rattle.activations.specs.declared.abrupt.Raised.{Raised}
use Rattle.apex_requests.specs.declared.reply.Outcome.TheVariants as O
use Rattle.apex_requests.specs.declared.request.Ticket.{Ticket}
use Rattle.apex_requests.specs.declared.request.Work.{Work}
use Rattle.apex_requests.specs.declared.request.Work.TheVariants.{Apex, Save, Refused}
use Rattle.apex_rows.specs.declared.query.Answer.{Answer}
use Rattle.save_meaning.specs.Results.{Res, Gives, Stops, Leaves, Closes, Halts, Needs, Unfinished, Unbuilt}
use Rattle.request_states.specs.Refusals.{no_writes, refusal, not_yet}
use Rattle.request_states.specs.Runs.{Setting, block_at, ended, whole, first_state}
use Rattle.request_states.specs.States.{State, World, Res as Comes}
use Rattle.tenant_trails.specs.Runs.{Run, Asks, Ends}
use Rattle.typed_program.specs.declared.program.Program.{Program}
use Rattle.typed_program.specs.declared.stmt.TypedStmt.{TypedStmt}
use Rattle.typed_program.specs.declared.unit.TypedClass.{TypedClass}
use Rattle.apex_meaning.specs.Bodies.{rounds, enough}
use Rattle.apex_meaning.specs.Exceptions.{class_told, message_told}
use Rattle.apex_meaning.specs.Statements.{does_all}

-- the names of the classes
abbrev pub names_of : Setting → List (List ℕ)
names_of setting = map (λ (c : TypedClass). c.name) setting.program.classes

-- what nothing catches
abbrev pub uncaught : Program → Raised → World → Run
uncaught program r w = Ends (ended (O.Thrown (class_told program r w.heap) (message_told r w.heap)) w) no_writes

abbrev pub left_by : Setting → Abrupt → World → Run
left_by setting (Throws r) w = uncaught setting.program r w
left_by setting why w = whole setting.ticket w

abbrev pub run_of : Setting → Comes (Unit {0}) → Run
run_of setting (Gives u st) = whole setting.ticket st.world
run_of setting (Stops (Leaves why) st) = left_by setting why st.world
run_of setting (Stops (Closes (Halts k n)) st) = Ends (ended (O.Limit k n) st.world) no_writes
run_of setting (Stops (Closes (Needs q)) st) = Asks q
run_of setting (Stops (Closes Unfinished) st) = Ends (refusal not_yet) no_writes
run_of setting (Stops (Closes Unbuilt) st) = Ends (refusal not_yet) no_writes

abbrev pub block_does : Setting → List TypedStmt → State → Comes (Unit {0})
block_does setting block st = does_all setting (rounds setting (names_of setting) (enough setting.program)) (names_of setting) block st

-- a block of a request, on a tape of answers
abbrev pub block_run : Setting → List TypedStmt → List Answer → Run
block_run setting block tape = run_of setting (block_does setting block (first_state tape))

-- there is no block, or none without a fault
abbrev pub run_or : Setting → Option (List TypedStmt) → List Answer → Run
run_or setting None tape = Ends (refusal not_yet) no_writes
run_or setting (Some block) tape = block_run setting block tape

-- the work of a request, on a tape of answers: a block, a save, which isn't built yet, or one that is refused
abbrev pub run : Setting → Work → List Answer → Run
run setting (Apex n) tape = run_or setting (block_at setting.program n) tape
run setting (Save op object all rows) tape = Ends (refusal not_yet) no_writes
run setting (Refused fault) tape = Ends (refusal fault) no_writes
