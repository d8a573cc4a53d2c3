-- What the machine asks is what the program asks that its image means.
use Rattle.std.proofs.Common.{◌≡◌, ℕ, true, false, List, [], ◌∷◌, ◌++◌, Option, Some, None, refl, sym, ap, ◌∙◌, subst, append_assoc, append-nil}
use Rattle.apex_rows.specs.declared.query.Answer.{Answer}
use Rattle.apex_rows.specs.declared.query.Question.{Question}
use Rattle.apex_requests.specs.declared.reply.Reply.{Reply}
use Rattle.apex_requests.specs.declared.request.Ticket.{Ticket}
use Rattle.apex_requests.specs.declared.request.Work.TheVariants.{Apex}
use Rattle.apex_rows.specs.declared.row.Row.{Row}
use Rattle.apex_rows.specs.declared.row.Writes.{Writes}
use Rattle.apex_schema.specs.declared.schema.Schema.{Schema}
use Rattle.record_store.specs.Places.{answer_to}
use Rattle.tenant_trails.specs.Runs as Trail
use Rattle.tenant_trails.specs.Runs.{Follows, Run, Evaluates, grabs_on}
use Rattle.request_states.specs.Runs.{Setting, block_at}
use Rattle.apex_meaning.specs.Runs.{block_run, run_or}
use Rattle.stack_code.specs.Means.{Means, block_in, is_there}
use Rattle.stack_code.specs.Runs.{start}
use Rattle.stack_code.specs.declared.image.Code.{Code}
use Rattle.stack_code.specs.declared.image.Image.{Image}
use Rattle.tenant_parts.specs.declared.part.TenantPart.{TenantPart}
use Rattle.tenant_shards.specs.Logs.{AreCurrent, IsLogOf}
use Rattle.typed_program.specs.declared.program.Program.{Program}
use Rattle.typed_program.specs.declared.stmt.TypedStmt.{TypedStmt}
use Rattle.metered_vm.specs.declared.run.Pause.TheVariants as P
use Rattle.metered_vm.specs.declared.run.Vm.{Vm}
use Rattle.metered_vm.specs.Keeps.{Stands}
use Rattle.metered_vm.specs.Runs.{Comes, Ran, Pauses, Waits, plain, told}
use Rattle.session_runs.specs.Blocks.{Answered, RunsTo, IsAt, told_of}
use Rattle.session_turns.specs.Calls.{go_of}
use Rattle.session_runs.specs.Laws.{ImagesEvaluateBlocks}
use Rattle.session_runs.specs.Sessions.{EndsBlock}

-- ---- a block on rows that stay

module _ (schema : Schema) (ticket : Ticket) (image : Image) (n : ℕ) (store : List Row) where
  -- one question and its answer more
  answered_more : (before tape : List Answer) (q : Question) (a : Answer) (k : ℕ) → Answered schema ticket image n store before tape → Comes schema ticket image (start n) (before ++ tape) k (Trail.Asks q) → a ≡ answer_to store q →
      Answered schema ticket image n store before (tape ++ a ∷ [])
  answered_more before [] q a k h c e = (q, (k, subst (λ t. Comes schema ticket image (start n) t k (Trail.Asks q)) (append-nil before) c), e, tt)
  answered_more before (b ∷ tape) q a k h c e =
      (h.0, h.1, h.2, answered_more (before ++ b ∷ []) tape q a k h.3 (subst (λ t. Comes schema ticket image (start n) t k (Trail.Asks q)) (sym (append_assoc before (b ∷ []) tape)) c) e)

  pub at_first : (vm : Vm) → Ran schema ticket image n [] vm.ops vm.config → Stands image vm.config → IsAt schema ticket image n store vm None
  at_first vm r s = record { tape = []; answered = tt; ran = r; stands = s }

  -- where it asked, it stands so with the answer
  pub at_next : (old : Vm) (before : Option Answer) (q : Question) (vm : Vm) (a : Answer) → IsAt schema ticket image n store old before → a ≡ answer_to store q →
      ((tape : List Answer) → Ran schema ticket image n tape old.ops (told before old.config) → Pauses schema ticket image n tape (P.Need q) vm) → Waits image (P.Need q) vm → IsAt schema ticket image n store vm (Some a)
  at_next old before q vm a s e h w =
      let p = h s.tape s.ran in record {
        tape = s.tape ++ a ∷ [];
        answered = answered_more [] s.tape q a p.0.0 s.answered p.0.1 e;
        ran = p.1 a;
        stands = w;
      }

  pub at_end : (old : Vm) (before : Option Answer) (reply : Reply) (writes : Writes) (vm : Vm) → IsAt schema ticket image n store old before →
      ((tape : List Answer) → Ran schema ticket image n tape old.ops (told before old.config) → Pauses schema ticket image n tape (P.End reply writes) vm) →
      RunsTo schema ticket image n store (record reply { ops = told_of reply.outcome reply.ops }) writes
  at_end old before reply writes vm s h =
      let p = h s.tape s.ran in
      record { tape = s.tape; answered = s.answered; steps = p.0; comes = p.1; ops = ap (λ n. told_of reply.outcome n) p.2 }

  -- ---- the block that the image means

  module _ (program : Program) (block : List TypedStmt) (m : Means program image) (at : block_at program n ≡ Some block) where
    abbrev setting : Setting
    setting = record { schema = schema; program = program; ticket = ticket }

    pub asks : (tape : List Answer) (k : ℕ) (r : Run) → Comes schema ticket image (start n) tape k r → block_run setting block tape ≡ r
    asks tape k r c = sym (m.only setting refl n block at tape k r c)

    follows : (before tape : List Answer) → Answered schema ticket image n store before tape → Follows store (block_run setting block) before tape
    follows before [] h = tt
    follows before (a ∷ tape) h = (h.0, asks before h.1.0 (Trail.Asks h.0) h.1.1, h.2, follows (before ++ a ∷ []) tape h.3)

    pub evaluates : (reply : Reply) (writes : Writes) → RunsTo schema ticket image n store reply writes → (grabs : List (List (List ℕ))) × Evaluates store (block_run setting block) (plain reply) writes grabs
    evaluates reply writes r = (
      grabs_on (block_run setting block) [] r.tape,
      record {
        tape = r.tape;
        follows = follows [] r.tape r.answered;
        ends = asks r.tape r.steps (Trail.Ends (plain reply) writes) r.comes;
        grabs_are = refl;
      },
    )

    -- a log's answers are those to what the machine asks
    pub logged : (before : List Answer) (qs : List Question) (gs : List Answer) → IsLogOf (block_run setting block) before qs gs → AreCurrent store qs gs → Answered schema ticket image n store before gs
    logged before [] [] l c = tt
    logged before [] (g ∷ gs) l c = absurd l
    logged before (q ∷ qs) [] l c = absurd l
    logged before (q ∷ qs) (g ∷ gs) l c =
        let comes = m.ends setting refl n block at before in
        (q, (comes.0, subst (λ r. Comes schema ticket image (start n) before comes.0 r) l.0 comes.1), c.0, logged (before ++ g ∷ []) qs gs l.1 c.1)

pub images_evaluate : ImagesEvaluateBlocks
images_evaluate schema program ticket image n block store reply writes m at r = evaluates schema ticket image n store program block m at reply writes r

-- ---- the block of a request

-- the program has the block where its image has the code
pub record Has (program : Program) (n : ℕ) : Type 0 where
  pub block : List TypedStmt
  pub at : block_at program n ≡ Some block

there_is : (program : Program) (n : ℕ) (o : Option (List TypedStmt)) → block_at program n ≡ o → is_there o ≡ true → Has program n
there_is program n None e h = absurd (false_true h) where
  false_true : false ≡ true → ⊥
  false_true e = cc
there_is program n (Some block) e h = record { block = block; at = e }

pub has_block : (program : Program) (image : Image) (n : ℕ) → Means program image → is_there (block_in image n) ≡ true → Has program n
has_block program image n m h = there_is program n (block_at program n) refl (sym (m.blocks n) ∙ h)

module _ (schema : Schema) (part : TenantPart) (ticket : Ticket) (image : Image) (n : ℕ) (m : Means part.program image) (code : is_there (block_in image n) ≡ true) where
  abbrev has : Has part.program n
  has = has_block part.program image n m code

  abbrev means : Setting
  means = record { schema = schema; program = part.program; ticket = ticket }

  go_is : go_of schema part ticket (Apex n) ≡ block_run means has.block
  go_is = ap (λ o. run_or means o) has.at

  pub goes : (tape : List Answer) (k : ℕ) (r : Run) → Comes schema ticket image (start n) tape k r → go_of schema part ticket (Apex n) tape ≡ r
  goes tape k r c = ap (λ o. run_or means o tape) has.at ∙ asks schema ticket image n [] part.program has.block m has.at tape k r c

  code_of : (o : Option Code) → is_there o ≡ true → (store : List Row) (reply : Reply) (writes : Writes) → RunsTo schema ticket image n store reply writes → EndsBlock schema ticket image n o store reply writes
  code_of None h store reply writes r = absurd (false_true h) where
    false_true : false ≡ true → ⊥
    false_true e = cc
  code_of (Some c) h store reply writes r = r

  -- the end of a machine on a log's answers
  pub ends : (store : List Row) (qs : List Question) (gs : List Answer) (reply : Reply) (writes : Writes) (vm : Vm) → IsLogOf (go_of schema part ticket (Apex n)) [] qs gs → AreCurrent store qs gs → Pauses schema ticket image n gs (P.End reply writes) vm →
      EndsBlock schema ticket image n (block_in image n) store (record reply { ops = told_of reply.outcome reply.ops }) writes
  ends store qs gs reply writes vm l c p =
      code_of (block_in image n) code store _ writes (record {
        tape = gs;
        answered = logged schema ticket image n store part.program has.block m has.at [] qs gs (subst (λ g. IsLogOf g [] qs gs) go_is l) c;
        steps = p.0;
        comes = p.1;
        ops = ap (λ k. told_of reply.outcome k) p.2;
      })

-- a block that the image has no code of is refused
pub no_code : (image : Image) (n : ℕ) (schema : Schema) (ticket : Ticket) (store : List Row) (reply : Reply) (writes : Writes) (o : Option Code) → is_there o ≡ false → EndsBlock schema ticket image n None store reply writes → EndsBlock schema ticket image n o store reply writes
no_code image n schema ticket store reply writes None h e = e
no_code image n schema ticket store reply writes (Some c) h e = absurd (true_false h) where
  true_false : true ≡ false → ⊥
  true_false e = cc

pub none_goes : (schema : Schema) (part : TenantPart) (ticket : Ticket) (n : ℕ) (o : Option (List TypedStmt)) → block_at part.program n ≡ o → is_there o ≡ false → (tape : List Answer) → go_of schema part ticket (Apex n) tape ≡ run_or (record { schema = schema; program = part.program; ticket = ticket }) None tape
none_goes schema part ticket n None e h tape = ap (λ o. run_or (record { schema = schema; program = part.program; ticket = ticket }) o tape) e
none_goes schema part ticket n (Some b) e h tape = absurd (true_false h) where
  true_false : true ≡ false → ⊥
  true_false e = cc
