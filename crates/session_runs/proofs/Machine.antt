-- What the machine asks is what the program asks that its image means.
use Rattle.std.proofs.Common.{◌≡◌, ℕ, List, [], ◌∷◌, ◌++◌, Option, Some, None, refl, sym, ap, subst, append_assoc, append-nil}
use Rattle.apex_rows.specs.declared.query.Answer.{Answer}
use Rattle.apex_rows.specs.declared.query.Question.{Question}
use Rattle.apex_requests.specs.declared.reply.Reply.{Reply}
use Rattle.apex_requests.specs.declared.request.Ticket.{Ticket}
use Rattle.apex_rows.specs.declared.row.Row.{Row}
use Rattle.apex_rows.specs.declared.row.Writes.{Writes}
use Rattle.apex_schema.specs.declared.schema.Schema.{Schema}
use Rattle.record_store.specs.Places.{answer_to}
use Rattle.tenant_trails.specs.Runs as Trail
use Rattle.tenant_trails.specs.Runs.{Follows, Run, Evaluates, grabs_on}
use Rattle.request_states.specs.Runs.{Setting, block_at}
use Rattle.apex_meaning.specs.Runs.{block_run}
use Rattle.stack_code.specs.Means.{Means}
use Rattle.stack_code.specs.Runs.{start}
use Rattle.stack_code.specs.declared.image.Image.{Image}
use Rattle.typed_program.specs.declared.program.Program.{Program}
use Rattle.typed_program.specs.declared.stmt.TypedStmt.{TypedStmt}
use Rattle.metered_vm.specs.declared.run.Pause.TheVariants as P
use Rattle.metered_vm.specs.declared.run.Vm.{Vm}
use Rattle.metered_vm.specs.Keeps.{Stands}
use Rattle.metered_vm.specs.Runs.{Comes, Ran, Pauses, Waits, plain, told}
use Rattle.session_runs.specs.Blocks.{Answered, RunsTo, IsAt, told_of}
use Rattle.session_runs.specs.Laws.{ImagesEvaluateBlocks}

-- ---- a block on rows that stay

module _ (schema : Schema) (ticket : Ticket) (image : Image) (n : ℕ) (store : List Row) where
  -- one question and its answer more
  answered_more : (before tape : List Answer) (q : Question) (a : Answer) (k : ℕ) → Answered schema ticket image n store before tape → Comes schema ticket image (start n) (before ++ tape) k (Trail.Asks q) → a ≡ answer_to store q →
      Answered schema ticket image n store before (tape ++ a ∷ [])
  answered_more before [] q a k h c e = (q, (k, subst (λ t. Comes schema ticket image (start n) t k (Trail.Asks q)) (append-nil before) c), e, tt)
  answered_more before (b ∷ tape) q a k h c e =
      (h.0, h.1, h.2, answered_more (before ++ b ∷ []) tape q a k h.3 (subst (λ t. Comes schema ticket image (start n) t k (Trail.Asks q)) (sym (append_assoc before (b ∷ []) tape)) c) e)

  pub at_first : (vm : Vm) → Ran schema ticket image n [] vm.ops vm.config → Stands image vm.config → IsAt schema ticket image n store vm None
  at_first vm r s = record { tape = []; answered = tt; ran = r; stands = s }

  -- where it asked, it stands so with the answer
  pub at_next : (old : Vm) (before : Option Answer) (q : Question) (vm : Vm) (a : Answer) → IsAt schema ticket image n store old before → a ≡ answer_to store q →
      ((tape : List Answer) → Ran schema ticket image n tape old.ops (told before old.config) → Pauses schema ticket image n tape (P.Need q) vm) → Waits image (P.Need q) vm → IsAt schema ticket image n store vm (Some a)
  at_next old before q vm a s e h w =
      let p = h s.tape s.ran in record {
        tape = s.tape ++ a ∷ [];
        answered = answered_more [] s.tape q a p.0.0 s.answered p.0.1 e;
        ran = p.1 a;
        stands = w;
      }

  pub at_end : (old : Vm) (before : Option Answer) (reply : Reply) (writes : Writes) (vm : Vm) → IsAt schema ticket image n store old before →
      ((tape : List Answer) → Ran schema ticket image n tape old.ops (told before old.config) → Pauses schema ticket image n tape (P.End reply writes) vm) →
      RunsTo schema ticket image n store (record reply { ops = told_of reply.outcome reply.ops }) writes
  at_end old before reply writes vm s h =
      let p = h s.tape s.ran in
      record { tape = s.tape; answered = s.answered; steps = p.0; comes = p.1; ops = ap (λ n. told_of reply.outcome n) p.2 }

  -- ---- the block that the image means

  module _ (program : Program) (block : List TypedStmt) (m : Means program image) (at : block_at program n ≡ Some block) where
    abbrev setting : Setting
    setting = record { schema = schema; program = program; ticket = ticket }

    pub asks : (tape : List Answer) (k : ℕ) (r : Run) → Comes schema ticket image (start n) tape k r → block_run setting block tape ≡ r
    asks tape k r c = sym (m.only setting refl n block at tape k r c)

    follows : (before tape : List Answer) → Answered schema ticket image n store before tape → Follows store (block_run setting block) before tape
    follows before [] h = tt
    follows before (a ∷ tape) h = (h.0, asks before h.1.0 (Trail.Asks h.0) h.1.1, h.2, follows (before ++ a ∷ []) tape h.3)

    pub evaluates : (reply : Reply) (writes : Writes) → RunsTo schema ticket image n store reply writes → (grabs : List (List (List ℕ))) × Evaluates store (block_run setting block) (plain reply) writes grabs
    evaluates reply writes r = (
      grabs_on (block_run setting block) [] r.tape,
      record {
        tape = r.tape;
        follows = follows [] r.tape r.answered;
        ends = asks r.tape r.steps (Trail.Ends (plain reply) writes) r.comes;
        grabs_are = refl;
      },
    )

pub images_evaluate : ImagesEvaluateBlocks
images_evaluate schema program ticket image n block store reply writes m at r = evaluates schema ticket image n store program block m at reply writes r
