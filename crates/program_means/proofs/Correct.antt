-- The image of a program means it.
use Rattle.std.proofs.Common.{◌≡◌, ◌≤◌, ℕ, List, [], Option, None, Some, option_map, refl, sym, ap, ◌∙◌, subst, append-nil, arith}
use Rattle.std.specs.Prelude.{slice_get, Result}
use Rattle.std.proofs.lemmas.Option.{slice_get-map}
use Rattle.activations.specs.declared.abrupt.Abrupt.{Abrupt}
use Rattle.activations.specs.declared.abrupt.Abrupt.TheVariants.{Throws, Returns, Breaks, Continues}
use Rattle.activations.specs.declared.abrupt.Raised.{Raised}
use Rattle.request_states.specs.Refusals.{no_writes}
use Rattle.request_states.specs.Runs.{Setting, site_of, block_at, stmts_of, stmts_or, ended, whole, first_state}
use Rattle.request_states.specs.States.{State, Res}
use Rattle.request_states.specs.Values.{null}
use Rattle.apex_requests.specs.declared.reply.Outcome.TheVariants as O
use Rattle.apex_rows.specs.declared.query.Answer.{Answer}
use Rattle.apex_meaning.specs.Bodies.{rounds, enough}
use Rattle.apex_meaning.specs.Classes.{class_at, name_or}
use Rattle.apex_meaning.specs.Exceptions as E
use Rattle.apex_meaning.specs.Exceptions.{Kind, BuiltIn, Declared, Nothing, kind_of, message_told}
use Rattle.apex_meaning.specs.Expressions.{value_of}
use Rattle.apex_meaning.specs.Meanings.{Again}
use Rattle.apex_meaning.specs.Runs.{block_does, block_run, left_by, names_of, run_of}
use Rattle.limit_meter.proofs.Counted.{counts_none}
use Rattle.save_meaning.specs.Results.{Halts, Needs, Unfinished, Unbuilt, Leaves, Closes, Gives, Stops, Holds}
use Rattle.save_meaning.specs.Sites.{Site}
use Rattle.save_meaning.specs.declared.run.TxnState.{TxnState}
use Rattle.tenant_trails.specs.Runs as Trail
use Rattle.txn_overlay.specs.Changes.{writes_of}
use Rattle.txn_overlay.specs.Journals.{Layers}
use Rattle.type_names.specs.declared.fault.TreeFault.{TreeFault}
use Rattle.typed_program.specs.declared.expr.TypedExpr.{TypedExpr}
use Rattle.typed_program.specs.declared.program.Program.{Program}
use Rattle.typed_program.specs.declared.stmt.TypedStmt.{TypedStmt}
use Rattle.typed_program.specs.declared.unit.TypedClass.{TypedClass}
use Rattle.stack_code.specs.Code as Code
use Rattle.stack_code.specs.Images as Images
use Rattle.stack_code.specs.Images.{image_of}
use Rattle.stack_code.specs.Machine.{instrs_at, reply_of, some_code}
use Rattle.stack_code.specs.Means.{ImagesMean, is_there, block_in}
use Rattle.stack_code.specs.Runs.{start}
use Rattle.stack_code.specs.Steps.{act}
use Rattle.stack_code.specs.Things as Things
use Rattle.stack_code.specs.declared.image.Image.{Image}
use Rattle.stack_code.specs.declared.state.BodyAt.TheVariants as B
use Rattle.program_checks.proofs.Images.{image_checked}
use Rattle.language_laws.proofs.Ends.{rounds_suffice}
use Rattle.program_means.proofs.Rounds.{follows_rounds}
use Rattle.program_means.proofs.Statements.{stmts_at}
use Rattle.program_means.proofs.Unique.{ends_unique}
use Rattle.program_simulation.proofs.Classes.{IsImage, block_or, name_in, of_image}
use Rattle.program_simulation.proofs.Fetch.{fetch_none}
use Rattle.program_simulation.proofs.Frames.{Follows}
use Rattle.program_simulation.proofs.Simulates as T
use Rattle.program_simulation.proofs.Trees.{expr_at}
use Rattle.program_simulation.proofs.Simulates.{Around, nothing_under, config, world, Stands, same_reply}

-- nothing waits for a block
abbrev outer : ℕ → Around
outer n = record { body = B.Block n; handlers = []; below = nothing_under }

module _ (setting : Setting) (image : Image) (r : Trail.Run) (is : IsImage setting.program image) where
  abbrev site : Site
  site = site_of setting

  -- ---- what nothing catches

  same_name : (k : Kind) → Things.name_of_kind image k ≡ E.name_of_kind setting.program k
  same_name (BuiltIn c) = refl
  same_name Nothing = refl
  same_name (Declared c) =
      ap (λ ns. Things.bytes_or (slice_get ns c)) is.names ∙ ap Things.bytes_or (slice_get-map name_in setting.program.classes c) ∙ by (class_at setting.program c) where
        by : (o : Option TypedClass) → Things.bytes_or (option_map name_in o) ≡ name_or o
        by None = refl
        by (Some k) = refl

  -- ---- how a block ends

  whole_is : (st : State) (w : TxnState) → Stands nothing_under st w → whole setting.ticket st.world ≡ r →
      Trail.Ends (reply_of O.Ok (world st w)) (writes_of setting.ticket.session setting.ticket.index w.overlay.now) ≡ r
  whole_is st w a e =
      ap (λ x. Trail.Ends x (writes_of setting.ticket.session setting.ticket.index w.overlay.now)) (same_reply O.Ok [] st w a.alike)
      ∙ ap (λ (j : Layers). Trail.Ends (ended O.Ok st.world) (writes_of setting.ticket.session setting.ticket.index j.now)) a.alike.overlay ∙ e

  uncaught_is : (t : Raised) (st : State) (w : TxnState) → Stands nothing_under st w → left_by setting (Throws t) st.world ≡ r →
      Trail.Ends (reply_of (O.Thrown (Things.name_of_kind image (kind_of t st.world.heap)) (message_told t st.world.heap)) (world st w)) no_writes ≡ r
  uncaught_is t st w a e =
      ap (λ n. Trail.Ends (reply_of (O.Thrown n (message_told t st.world.heap)) (world st w)) no_writes) (same_name (kind_of t st.world.heap))
      ∙ ap (λ x. Trail.Ends x no_writes) (same_reply (O.Thrown (E.class_told setting.program t st.world.heap) (message_told t st.world.heap)) [] st w a.alike) ∙ e

  left : (n : ℕ) (why : Abrupt) (st : State) → left_by setting why st.world ≡ r → T.Left site image r (outer n) why st
  left n (Throws t) st e = record { by = λ pc temps w a. T.stepped site image r _ st.world.txn.tape _ refl (0, ap Some (uncaught_is t st w a e)) }
  left n (Returns v) st e = record { by = λ pc temps w a. T.stepped site image r _ st.world.txn.tape _ refl (0, ap Some (whole_is st w a e)) }
  left n Breaks st e = record { by = λ pc temps w a. T.stepped site image r _ st.world.txn.tape _ refl (0, ap Some (whole_is st w a e)) }
  left n Continues st e = record { by = λ pc temps w a. T.stepped site image r _ st.world.txn.tape _ refl (0, ap Some (whole_is st w a e)) }

  -- behind the last instruction
  finished : (n : ℕ) (st : State) → whole setting.ticket st.world ≡ r → T.At site image r (outer n) [] [] st
  finished n st e = record {
    by = λ pc w a d.
        T.stepped site image r (config (outer n) pc [] st w) st.world.txn.tape (act site image None (config (outer n) pc [] st w))
        (ap (λ o. act site image o (config (outer n) pc [] st w)) (fetch_none pc (instrs_at image (B.Block n)) d)) ((left n (Returns null) st e).by pc [] w a);
  }

  outermost : (n : ℕ) (res : Res (Unit {0})) → ((st : State) → res ≡ Stops (Closes Unfinished) st → ⊥) → run_of setting res ≡ r → Holds (λ u s. T.At site image r (outer n) [] [] s) (T.Stopped site image r (outer n)) res
  outermost n (Gives u st) f e = finished n st e
  outermost n (Stops (Leaves why) st) f e = left n why st e
  outermost n (Stops (Closes (Halts k m)) st) f e = λ saved w a. e
  outermost n (Stops (Closes (Needs q)) st) f e = λ saved w a. e
  outermost n (Stops (Closes Unfinished) st) f e = λ saved w a. f st refl
  outermost n (Stops (Closes Unbuilt) st) f e = λ saved w a. e

module _ (setting : Setting) (image : Image) (is : IsImage setting.program image) where
  comes : (n : ℕ) (block : List TypedStmt) → block_at setting.program n ≡ Some block → (tape : List Answer) → T.Runs (site_of setting) image (block_run setting block tape) (start n) tape
  comes n block h tape =
      (stmts_at setting image r is (rounds setting names m) names follows (values (rounds setting names m) follows) block (outer n) [] (first_state tape)
      (outermost setting image r is n (block_does setting block (first_state tape)) (λ st e. rounds_suffice setting block tape st e) refl)).by
      0 (start n).world.txn (record { alike = record { overlay = refl; minted = refl; counts = counts_none; eight = refl }; calls = none_open; firings = none_open }) (is.blocks n ∙ ap (block_or setting.program) h ∙ sym (append-nil (Code.block_code setting.program block))) where
        r : Trail.Run
        r = block_run setting block tape

        names : List (List ℕ)
        names = names_of setting

        m : ℕ
        m = enough setting.program

        values : (again : Again) → Follows (site_of setting) image r again → (e : TypedExpr) → T.Puts (site_of setting) image r (value_of setting again names e) (Code.expr_code setting.program e)
        values again f e = expr_at setting image r is again f names is.names e

        follows : Follows (site_of setting) image r (rounds setting names m)
        follows = follows_rounds setting image r is names values m

        none_open : 0 ≤ 0
        none_open = omega arith

-- an image has code for the blocks that its program has
blocks_there : (program : Program) (n : ℕ) → is_there (block_in (image_of program) n) ≡ is_there (block_at program n)
blocks_there program n = ap (λ o. is_there (some_code o)) (slice_get-map (Images.block_of program) program.blocks n) ∙ by (slice_get program.blocks n) where
  by_block : (o : Option (List TypedStmt)) → is_there (option_map (λ (stmts : List TypedStmt). Images.code (Code.block_code program stmts)) o) ≡ is_there o
  by_block None = refl
  by_block (Some b) = refl

  by : (o : Option (Result (List TypedStmt) TreeFault)) → is_there (some_code (option_map (Images.block_of program) o)) ≡ is_there (stmts_or o)
  by None = refl
  by (Some b) = by_block (stmts_of b)

pub means : ImagesMean
means program = record {
  checked = image_checked program;
  blocks = blocks_there program;
  ends = λ setting e n block h tape. all setting e n block h tape;
  only = λ setting e n block h tape k r ends.
      let c = all setting e n block h tape in ends_unique (site_of setting) (image_of program) k c.0 (start n) tape r (block_run setting block tape) ends c.1;
} where
  all : (setting : Setting) → setting.program ≡ program → (n : ℕ) (block : List TypedStmt) → block_at program n ≡ Some block → (tape : List Answer) → T.Runs (site_of setting) (image_of program) (block_run setting block tape) (start n) tape
  all setting e n block h tape =
      comes setting (image_of program) (subst (λ p. IsImage setting.program (image_of p)) e (of_image setting.program)) n block (subst (λ p. block_at p n ≡ Some block) (sym e) h) tape
