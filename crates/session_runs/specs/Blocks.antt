-- What is said of an image that runs on rows (docs/platform.md, "Trails").
use Rattle.std.specs.Prelude.{◌≡◌, ℕ, min, List, [], ◌∷◌, ◌++◌, Option}
use Rattle.apex_rows.specs.declared.query.Answer.{Answer}
use Rattle.apex_rows.specs.declared.query.Question.{Question}
use Rattle.apex_requests.specs.declared.reply.Outcome.{Outcome}
use Rattle.apex_requests.specs.declared.reply.Outcome.TheVariants.{Ok, Thrown, Limit, Refused}
use Rattle.apex_requests.specs.declared.reply.Reply.{Reply}
use Rattle.apex_requests.specs.declared.request.Ticket.{Ticket}
use Rattle.apex_rows.specs.declared.row.Row.{Row}
use Rattle.apex_rows.specs.declared.row.Writes.{Writes}
use Rattle.apex_schema.specs.declared.schema.Schema.{Schema}
use Rattle.record_store.specs.Places.{answer_to}
use Rattle.tenant_trails.specs.Runs as Trail
use Rattle.stack_code.specs.Runs.{start}
use Rattle.stack_code.specs.declared.image.Image.{Image}
use Rattle.metered_vm.specs.declared.run.Vm.{Vm}
use Rattle.metered_vm.specs.Keeps.{Stands}
use Rattle.metered_vm.specs.Runs.{Comes, Ran, ops_of, most_told, plain, told}

-- the number of steps that a reply tells: a refused one tells none
abbrev pub told_of : Outcome → ℕ → ℕ
told_of Ok n = n
told_of (Thrown c m) n = n
told_of (Limit k l) n = n
told_of (Refused f) n = 0

module _ (schema : Schema) (ticket : Ticket) (image : Image) (block : ℕ) (store : List Row) where
  -- each answer of a tape is the store's to what the machine asks on those before it
  abbrev pub Answered : List Answer → List Answer → Type 0
  Answered before [] = Unit {0}
  Answered before (a ∷ more) =
      (q : Question) × ((n : ℕ) × Comes schema ticket image (start block) before n (Trail.Asks q)) × (a ≡ answer_to store q) × Answered (before ++ a ∷ []) more

  -- from the start of the block the machine comes on the store's answers to this reply, with the number of its steps unless it is refused, and these
  -- writes
  pub record RunsTo (reply : Reply) (writes : Writes) : Type 0 where
    pub tape : List Answer
    pub answered : Answered [] tape
    pub steps : ℕ
    pub comes : Comes schema ticket image (start block) tape steps (Trail.Ends (plain reply) writes)
    pub ops : reply.ops ≡ told_of reply.outcome (min (ops_of schema ticket image steps (start block) tape) most_told)

  -- where it stands before it goes on: on these answers, the last of which may be given still
  pub record IsAt (vm : Vm) (answer : Option Answer) : Type 0 where
    pub tape : List Answer
    pub answered : Answered [] tape
    pub ran : Ran schema ticket image block tape vm.ops (told answer vm.config)
    pub stands : Stands image vm.config
