-- Blocks that stand alone.
use Rattle.std.proofs.Common.{◌≡◌, inl, inr, ℕ, true, false, List, [], ◌∷◌, ◌++◌, Option, None, Result, Ok, Err, refl, sym, ap, ◌∙◌, subst, append_assoc, append-nil}
use Rattle.std.specs.Prelude.{◌⊎◌, IfOk}
use Rattle.apex_requests.specs.declared.reply.Outcome.TheVariants as O
use Rattle.apex_requests.specs.declared.reply.Reply.{Reply}
use Rattle.apex_requests.specs.declared.request.Ticket.{Ticket}
use Rattle.apex_rows.specs.declared.query.Answer.{Answer}
use Rattle.apex_rows.specs.declared.query.Question.{Question}
use Rattle.apex_rows.specs.declared.row.Row.{Row}
use Rattle.apex_rows.specs.declared.row.Writes.{Writes}
use Rattle.apex_schema.specs.declared.schema.Schema.{Schema}
use Rattle.apex_syntax.specs.declared.unit.Unit.{Unit as Tree}
use Rattle.apex_types.specs.Checks.{Check, Gives, checked, block_of, home_of}
use Rattle.fault_words.specs.declared.fault.Fault.{Fault}
use Rattle.record_store.specs.Places.{answer_to}
use Rattle.session_runs.specs.Blocks.{RunsTo}
use Rattle.stack_code.specs.declared.image.Image.{Image}
use Rattle.stack_code.specs.Means.{Means}
use Rattle.metered_vm.specs.Runs.{plain}
use Rattle.tenant_trails.specs.Runs.{Run, Asks, Ends, Follows, Evaluates}
use Rattle.tenant_units.specs.Faults.{IsFaultOf}
use Rattle.tenant_units.specs.Trees.{block_rule, block_name, IsBlock}
use Rattle.type_names.specs.declared.fault.TreeFault.{TreeFault}
use Rattle.typed_program.specs.declared.program.Program.{Program}
use Rattle.typed_program.specs.declared.stmt.TypedStmt.{TypedStmt}
use Rattle.commands.specs.declared.answer.Made.{Made}
use Rattle.commands.specs.declared.answer.Made.TheVariants.{Text, Line}
use Rattle.commands.specs.Answers.{Makes}
use Rattle.commands.specs.Exec.{schema, ticket, program_of, IsJudged, ComesTo, IsRun, IsInput, Replied, IsWhy, IsRefused}
use Rattle.commands.specs.Made.{IsOnlyTree, IsOnlyBlock, IsOfBlock, line, IsTold, IsLineOf, kept_of}

-- what holds of an answer, where another thing does
pub if_ok : {A E : Type 0} (P Q : A → Type 0) (r : Result A E) → ((a : A) → P a → Q a) → IfOk r P → IfOk r Q
if_ok P Q (Ok a) go p = go a p
if_ok P Q (Err e) go p = tt

-- ---- on a store a request comes to one reply

asks_and_ends : {q : Question} {reply : Reply} {writes : Writes} → Asks q ≡ Ends reply writes → ⊥
asks_and_ends e = cc

same_question : {q other : Question} → Asks q ≡ Asks other → q ≡ other
same_question e = cc

same_reply : {reply other : Reply} {writes more : Writes} → Ends reply writes ≡ Ends other more → reply ≡ other
same_reply e = cc

replies : (store : List Row) (run : List Answer → Run) (before tape other : List Answer) (reply again : Reply) (writes more : Writes)
    → Follows store run before tape → Follows store run before other → run (before ++ tape) ≡ Ends reply writes → run (before ++ other) ≡ Ends again more → again ≡ reply
replies store run before [] [] reply again writes more f g e h = same_reply (sym h ∙ e)
replies store run before [] (b ∷ ms) reply again writes more f g e h = absurd (asks_and_ends (sym g.1 ∙ ap run (sym (append-nil before)) ∙ e))
replies store run before (a ∷ ls) [] reply again writes more f g e h = absurd (asks_and_ends (sym f.1 ∙ ap run (sym (append-nil before)) ∙ h))
replies store run before (a ∷ ls) (b ∷ ms) reply again writes more f g e h =
    let question : g.0 ≡ f.0 = same_question (sym g.1 ∙ f.1) in
    let answer : b ≡ a = g.2 ∙ ap (λ q. answer_to store q) question ∙ sym f.2 in
    let behind : Follows store run (before ++ a ∷ []) ms = subst (λ x. Follows store run (before ++ x ∷ []) ms) answer g.3 in
    let end : run ((before ++ a ∷ []) ++ ls) ≡ Ends reply writes = ap run (append_assoc before (a ∷ []) ls) ∙ e in
    let other_end : run ((before ++ a ∷ []) ++ ms) ≡ Ends again more = ap run (append_assoc before (a ∷ []) ms ∙ ap (λ x. before ++ x ∷ ms) (sym answer)) ∙ h in
    replies store run (before ++ a ∷ []) ls ms reply again writes more f.3 behind end other_end

pub one_reply : (store : List Row) (run : List Answer → Run) (reply again : Reply) (writes more : Writes) (grabs asked : List (List (List ℕ)))
    → Evaluates store run reply writes grabs → Evaluates store run again more asked → again ≡ reply
one_reply store run reply again writes more grabs asked e h =
    replies store run [] e.tape h.tape reply again writes more e.follows h.follows e.ends h.ends

-- ---- what the block finds around it

pub program_in : (s : Schema) (tree : Tree) (program : Program) → s ≡ schema → checked s.objects [] (tree ∷ []) ≡ Gives program → checked schema.objects [] (tree ∷ []) ≡ Gives program
program_in s tree program e c = subst (λ (x : Schema). checked x.objects [] (tree ∷ []) ≡ Gives program) e c

pub runs_in : (s : Schema) (t : Ticket) (image : Image) (reply : Reply) (writes : Writes) → s ≡ schema → t ≡ ticket → RunsTo s t image 0 [] reply writes → RunsTo schema ticket image 0 [] reply writes
runs_in s t image reply writes e h r = subst (λ x. RunsTo x ticket image 0 [] reply writes) e (subst (λ x. RunsTo s x image 0 [] reply writes) h r)

-- ---- the program of a tree

given : {A : Type 0} {a b : A} → ◌≡◌ {A = Check A} (Gives a) (Gives b) → b ≡ a
given e = cc

-- it has one block, as the checker judges it
pub program_is : (tree : Tree) (program : Program) → checked schema.objects [] (tree ∷ []) ≡ Gives program → program ≡ program_of (block_of (home_of schema.objects []) tree)
program_is tree program e = given e

-- what bytes of one tree are judged is what the checker judges of that
pub judged_is : (bytes : List ℕ) (tree : Tree) (program : Program) (block : Result (List TypedStmt) TreeFault)
    → IsOnlyTree bytes tree → checked schema.objects [] (tree ∷ []) ≡ Gives program → IsJudged bytes block → program_of block ≡ program
judged_is bytes tree program block t e j =
    given (sym e ∙ ap (λ x. checked schema.objects [] (x ∷ [])) (sym (t.only j.tree j.is_tree)) ∙ j.judged)

same_first : {A : Type 0} {one other : A} → one ∷ [] ≡ other ∷ [] → one ≡ other
same_first e = cc

only_block : {one other : Result (List TypedStmt) TreeFault} → program_of one ≡ program_of other → one ≡ other
only_block e = same_first (ap (λ (program : Program). program.blocks) e)

same_block : {one other : List TypedStmt} → ◌≡◌ {A = Result (List TypedStmt) TreeFault} (Ok one) (Ok other) → one ≡ other
same_block e = cc

pub judged_of : (bytes : List ℕ) (tree : Tree) (program : Program) (block : Result (List TypedStmt) TreeFault)
    → IsOnlyTree bytes tree → checked schema.objects [] (tree ∷ []) ≡ Gives program → program ≡ program_of block → IsJudged bytes block
judged_of bytes tree program block t e p = record { tree = tree; is_tree = t.is; judged = e ∙ ap (λ x. Gives x) p }

pub only_of : (bytes : List ℕ) (tree : Tree) (program : Program) (block : List TypedStmt)
    → IsOnlyTree bytes tree → checked schema.objects [] (tree ∷ []) ≡ Gives program → program ≡ program_of (Ok block) → IsOnlyBlock bytes block
only_of bytes tree program block t e p =
    record {
      is = judged_of bytes tree program (Ok block) t e p;
      only = λ other o. same_block (only_block (judged_is bytes tree program (Ok other) t e o ∙ p));
    }

-- ---- what is made of it

ill_and_well : {fault : TreeFault} {block : List TypedStmt} → ◌≡◌ {A = Result (List TypedStmt) TreeFault} (Ok block) (Err fault) → ⊥
ill_and_well e = cc

refused_of : (image : Option Image) (bytes : List ℕ) (made : Made) (told : Fault) → (IsInput bytes → ⊥) → image ≡ None → IsWhy bytes told → made ≡ line told → Makes (Replied image) (IsRefused image) bytes made
refused_of image bytes made told none nothing why is =
    subst (λ m. Makes (Replied image) (IsRefused image) bytes m) (sym is) (record { none = none; nothing_kept = nothing; told = told; why = why; is = refl })

-- bytes without a tree
pub treeless : (image old : Option Image) (bytes : List ℕ) (made : Made) (told : Fault)
    → IsFaultOf block_rule block_name bytes told → ((tree : Tree) → IsBlock bytes tree → ⊥) → image ≡ old → old ≡ None → made ≡ line told → Makes (Replied image) (IsRefused image) bytes made
treeless image old bytes made told why none i o is = refused_of image bytes made told (λ input. none input.is.tree input.is.is_tree) (i ∙ o) (inl why) is

-- a block that the checker refuses
pub ill_typed : (image old : Option Image) (bytes : List ℕ) (tree : Tree) (program : Program) (fault : TreeFault) (made : Made)
    → IsOnlyTree bytes tree → checked schema.objects [] (tree ∷ []) ≡ Gives program → program ≡ program_of (Err fault) → IsLineOf bytes fault made → image ≡ old → old ≡ None → Makes (Replied image) (IsRefused image) bytes made
ill_typed image old bytes tree program fault made t e p l i o =
    let judged = judged_of bytes tree program (Err fault) t e p in
    let none : IsInput bytes → ⊥ = λ input. ill_and_well (only_block (judged_is bytes tree program (Ok input.block) t e input.is ∙ p)) in
    refused_of image bytes made l.0 none (i ∙ o) (inr (inl (record { fault = fault; is = judged; tells = l.1 }))) l.2

-- ---- a block that was run

run_and_refused : (outcome : _) (fault : Fault) → outcome ≡ O.Refused fault → IsRun outcome → ⊥
run_and_refused outcome fault e r = subst IsRun e r

pub unbuilt : (bytes : List ℕ) (block : List TypedStmt) (reply : Reply) (writes : Writes) (fault : Fault)
    → IsOnlyBlock bytes block → ComesTo block reply writes → reply.outcome ≡ O.Refused fault → IsInput bytes → ⊥
unbuilt bytes block reply writes fault b comes e input =
    let same = b.only input.block input.is in
    let again : ComesTo block input.reply input.writes = subst (λ x. ComesTo x input.reply input.writes) same input.comes in
    let is : input.reply ≡ reply = one_reply _ _ reply input.reply writes input.writes comes.0 again.0 comes.1 again.1 in
    run_and_refused input.reply.outcome fault (ap (λ (r : Reply). r.outcome) is ∙ e) input.runs

pub made_of : (made : Made) (bytes : List ℕ) (block : List TypedStmt) (kept : Image) (image old : Option Image) (reply : Reply) (writes : Writes)
    → IsOnlyBlock bytes block → Means (program_of (Ok block)) kept → RunsTo schema ticket kept 0 [] reply writes → ComesTo block (plain reply) writes → IsTold reply made → image ≡ kept_of made kept old → old ≡ None
    → Makes (Replied image) (IsRefused image) bytes made
made_of (Text text) bytes block kept image old reply writes b m r comes t i o = record {
  block = block;
  is = b.is;
  only = b.only;
  kept = kept;
  is_kept = i;
  means = m;
  reply = reply;
  writes = writes;
  comes = comes;
  runs = t.0;
  machine = r;
  prints = t.1;
}
made_of (Line text) bytes block kept image old reply writes b m r comes t i o = record {
  none = unbuilt bytes block (plain reply) writes t.0 b comes t.1;
  nothing_kept = i ∙ o;
  told = t.0;
  why = inr (inr (record { block = block; is = b.is; reply = plain reply; writes = writes; comes = comes; refused = t.1 }));
  is = t.2;
}

pub runs_input : (image : Option Image) (bytes text : List ℕ) → Replied image bytes text → IsInput bytes
runs_input image bytes text r = record { block = r.block; is = r.is; reply = plain r.reply; writes = r.writes; comes = r.comes; runs = r.runs }

-- ---- a block is well typed, or has a fault

placed : (program : Program) (one : Result (List TypedStmt) TreeFault) → program ≡ program_of one → IsOfBlock program
placed program (Ok block) p = inl (block, p)
placed program (Err fault) p = inr (fault, p)

pub of_block : (tree : Tree) (program : Program) → checked schema.objects [] (tree ∷ []) ≡ Gives program → IsOfBlock program
of_block tree program e = placed program _ (program_is tree program e)
