-- The moves of a chunk come to what its phases mean.
use Rattle.std.proofs.Common.{◌≡◌, refl, ap, sym, subst, ◌∙◌, ℕ, ◌+◌, Bool, true, false, List, [], ◌∷◌, ◌++◌, length, Some, append_assoc, append-nil}
use Rattle.std.specs.Prelude.{not, slice_get}
use Rattle.std.proofs.lemmas.List.{length-map}
use Rattle.store_inquiries.specs.Inquiries.{inquire}
use Rattle.save_statements.specs.declared.statement.Placed.{Placed}
use Rattle.apex_num.specs.declared.kind.LimitKind.TheVariants.{Steps, Alloc}
use Rattle.apex_schema.specs.declared.schema.Object.{Object}
use Rattle.apex_rows.specs.declared.row.Row.{Row}
use Rattle.record_ids.specs.Ids.{minted_id}
use Rattle.row_meaning.specs.Overlays.{Overlay, Now}
use Rattle.txn_overlay.specs.Changes.{changed}
use Rattle.txn_overlay.specs.Journals.{Layers}
use Rattle.save_meaning.specs.Sites.{Site}
use Rattle.save_meaning.specs.Results.{Stop, Leaves, Closes, Res, Gives, bind, leaves_as, Holds}
use Rattle.save_meaning.specs.Transactions.{Txn, Keeps, IsKept, charge, set_overlay}
use Rattle.save_meaning.specs.Drafts.{written}
use Rattle.save_meaning.specs.MoveLaws.{Alike}
use Rattle.save_meaning.specs.declared.run.TxnState.{TxnState}
use Rattle.save_statements.specs.declared.pending.Act.{Act}
use Rattle.save_statements.specs.declared.pending.Act.TheVariants.{Inserting, Updating, Deleting}
use Rattle.save_statements.specs.declared.pending.Pending.{Pending}
use Rattle.save_statements.specs.declared.pending.Record.{Record}
use Rattle.save_statements.specs.declared.pending.Record.TheVariants.{Going, Wrong}
use Rattle.save_statements.specs.declared.firing.Trigger.{Trigger}
use Rattle.save_statements.specs.declared.firing.Entry.{Entry}
use Rattle.save_statements.specs.declared.run.Phase.{Phase}
use Rattle.save_statements.specs.declared.run.Phase.TheVariants as P
use Rattle.save_statements.specs.declared.run.Stage.{Stage}
use Rattle.save_statements.specs.declared.run.Stage.TheVariants as St
use Rattle.save_statements.specs.declared.run.SaveRun.{SaveRun}
use Rattle.save_statements.specs.Records.{going}
use Rattle.save_statements.specs.Inquiries.{replayed}
use Rattle.save_statements.specs.Loading.{load}
use Rattle.save_statements.specs.Checks.{refer, validate}
use Rattle.save_statements.specs.Firings.{entries, context, fired, back}
use Rattle.save_statements.specs.Phases as Phases
use Rattle.save_statements.specs.Phases.{Code, row_units, drop_all, overlay_of, looks, mint, enter_these, enter, fire_all, trigger, save_chunk}
use Rattle.save_statements.specs.Statements.{unplaced}
use Rattle.save_statements.specs.Moves as Moves
use Rattle.save_statements.specs.Moves.{Move, Goes, charged, marked, started, at, behind, phase_of, replays, is_written, with_object, of_object, inside, entered, move}
use Rattle.save_meaning.proofs.Holding.{bound, weaken, weaken_end}
use Rattle.save_statements.proofs.Driving.{Drives, leads_self, leads_on, alike_kept, Next, Stopped, goes_to, plain, after_charge, leads_charge, charge_then, charge_next, replay_next}

-- a row more, and rows that go, on both sides
alike_put : (saved : List Overlay) (w : TxnState) (t : Txn) (id : List ℕ) (row : Row) → Alike saved w t → Alike saved (Moves.put id row w) (record t { overlay = changed id (Now (written id row)) t.overlay })
alike_put saved w t id row a = record {
  overlay = ap (λ (j : Layers). record j { now = changed id (Now (written id row)) j.now }) a.overlay;
  minted = a.minted;
  counts = a.counts;
  eight = a.eight;
}

alike_without : (saved : List Overlay) (w : TxnState) (t : Txn) (ids : List (List ℕ)) → Alike saved w t → Alike saved (Moves.without ids w) (record t { overlay = drop_all ids t.overlay })
alike_without saved w t ids a = record {
  overlay = ap (λ (j : Layers). record j { now = drop_all ids j.now }) a.overlay;
  minted = a.minted;
  counts = a.counts;
  eight = a.eight;
}

module _ {S : Type 0} (keeps : Keeps S) (keeping : IsKept keeps) (site : Site) (code : Code S) (d : Drives keeps site code) where
  module _ (object : ℕ) (o : Object) (here : slice_get site.schema.objects object ≡ Some o) where
    -- a move of a statement whose object is there
    pub found_object : (go : Object → Move) (run : SaveRun) (w : TxnState) → run.object ≡ object → of_object site code.triggers go run w ≡ go o
    found_object go run w e = ap (λ x. with_object site code.triggers x go run w) (ap (slice_get site.schema.objects) e ∙ here)

    module _ (r : SaveRun) (same : r.object ≡ object) (saved : List Overlay) where
      abbrev Then : (List Record → Stage) → List Record → S → Type 0
      Then stage rs s = Next keeps keeping site code d saved (at r (stage rs)) s

      abbrev Ends : Stop ⊥ → S → Type 0
      Ends why s = Stopped keeps keeping site code d why s

      -- on to a phase, or past it
      enter_at : (phase : Phase) (does : List Record → S → Res S ⊥ (List Record)) (rs : List Record) (s : S) →
          ((es : List Record) (s1 : S) → Holds (Then (behind phase)) Ends (does es s1) → Next keeps keeping site code d saved (at r (inside site code.triggers phase es (at r (St.Enter phase es)))) s1) →
          Holds (Then (behind phase)) Ends (enter keeps site does rs s) → Next keeps keeping site code d saved (at r (St.Enter phase rs)) s
      enter_at phase does rs s inner post = by (going rs) refl post where
        run : SaveRun
        run = at r (St.Enter phase rs)

        by : (ps : List Pending) → going rs ≡ ps → Holds (Then (behind phase)) Ends (enter_these keeps site ps does rs s) → Next keeps keeping site code d saved run s
        by [] e h = plain keeps keeping site code d saved run (at r (behind phase rs)) s (λ w. ap (λ ps. entered site code.triggers ps phase rs run w) e) h
        by (p ∷ ps) e h =
            charge_next keeps keeping site code d Ends (λ f s1 g. g) saved saved (λ v. v) Steps (length (p ∷ ps)) run (at r (inside site code.triggers phase rs run)) s
            (λ w. ap (λ x. entered site code.triggers x phase rs run w) e) (λ v a. a)
            (weaken _ _ Ends (charge keeps Steps (length (p ∷ ps)) s) (λ u s1 g. inner rs s1 g) (bound (Then (behind phase)) Ends (charge keeps Steps (length (p ∷ ps)) s) (λ u s1. does rs s1) h))

      -- ---- phases that ask

      pub load_at : (s : S) → Holds (Then (St.Enter P.Refer)) Ends (inquire keeps (load site (overlay_of keeps site s) r.act r.by r.object o (unplaced r.rows)) s) → Next keeps keeping site code d saved (at r (St.Load [])) s
      load_at s post =
          replay_next keeps keeping site code d saved r St.Load (St.Enter P.Refer) (λ v. load site v r.act r.by r.object o (unplaced r.rows)) (keeps.txn s).overlay
          (λ w answers. found_object (λ x. replays (replayed (load site w.overlay.now r.act r.by r.object x (unplaced r.rows)) answers) (St.Enter P.Refer) (at r (St.Load answers)) w) (at r (St.Load answers)) w same)
          (λ answers a. refl) (load site (keeps.txn s).overlay r.act r.by r.object o (unplaced r.rows)) [] s (λ more. refl) refl post

      refer_at : (rs : List Record) (s : S) → Holds (Then (behind P.Refer)) Ends (looks keeps site (λ v es. refer site v r.act o es) rs s) → Next keeps keeping site code d saved (at r (St.Refer rs [])) s
      refer_at rs s post =
          replay_next keeps keeping site code d saved r (St.Refer rs) (behind P.Refer) (λ v. refer site v r.act o rs) (keeps.txn s).overlay
          (λ w answers. found_object (λ x. replays (replayed (refer site w.overlay.now r.act x rs) answers) (behind P.Refer) (at r (St.Refer rs answers)) w) (at r (St.Refer rs answers)) w same)
          (λ answers a. refl) (refer site (keeps.txn s).overlay r.act o rs) [] s (λ more. refl) refl post

      validate_at : (rs : List Record) (s : S) → Holds (Then (behind P.Validate)) Ends (looks keeps site (λ v es. validate site v r.act r.object o es) rs s) →
          Next keeps keeping site code d saved (at r (St.Validate rs [])) s
      validate_at rs s post =
          replay_next keeps keeping site code d saved r (St.Validate rs) (behind P.Validate) (λ v. validate site v r.act r.object o rs) (keeps.txn s).overlay
          (λ w answers. found_object (λ x. replays (replayed (validate site w.overlay.now r.act r.object x rs) answers) (behind P.Validate) (at r (St.Validate rs answers)) w) (at r (St.Validate rs answers)) w same)
          (λ answers a. refl) (validate site (keeps.txn s).overlay r.act r.object o rs) [] s (λ more. refl) refl post

      -- ---- triggers

      fire_at : (before : Bool) (ts : List Trigger) (es : List Entry) (s : S) →
          Holds (λ fs s1. Then (behind (phase_of before)) (back fs) s1) Ends (fire_all keeps site code r.act before ts es s) → Next keeps keeping site code d saved (at r (St.Fire before ts es)) s
      fire_at before [] es s post = plain keeps keeping site code d saved (at r (St.Fire before [] es)) (at r (behind (phase_of before) (back es))) s (λ w. refl) post
      fire_at before (t ∷ ts) es s post =
          λ w a.
          d.fires saved (at r (St.Fire before (t ∷ ts) es)) w s t.number (context r.act before es) refl a
          (weaken_end _ Ends _ (code.fire t.number (context r.act before es) s) closes
          (weaken _ _ Ends (code.fire t.number (context r.act before es) s) (λ f s1 h. fire_at before ts (fired t f es) s1 h)
          (bound (λ fs s1. Then (behind (phase_of before)) (back fs) s1) Ends (code.fire t.number (context r.act before es) s) (λ f s1. fire_all keeps site code r.act before ts (fired t f es) s1) post))) where
            closes : (why : Stop ⊥) (s1 : S) → Ends why s1 → (inner : List Overlay) (v : TxnState) → Alike inner v (keeps.txn s1) → d.end (leaves_as (λ e. absurd e) why) v s1
            closes (Leaves e) s1 h = absurd e
            closes (Closes f) s1 h = h

      trigger_at : (before : Bool) (rs : List Record) (s : S) → Holds (Then (behind (phase_of before))) Ends (trigger keeps site code r.act before r.object rs s) →
          Next keeps keeping site code d saved (at r (St.Fire before (code.triggers r.object r.act before) (entries rs))) s
      trigger_at before rs s post =
          fire_at before (code.triggers r.object r.act before) (entries rs) s
          (bound (Then (behind (phase_of before))) Ends (fire_all keeps site code r.act before (code.triggers r.object r.act before) (entries rs) s) (λ es s1. Gives (back es) s1) post)

      -- ---- writing

      module _ (p : Pending) (before rs : List Record) where
        abbrev here_at : SaveRun
        here_at = at r (St.Write before (Going p ∷ rs))

        -- what comes behind the writing of the first record
        abbrev One : Pending → S → Type 0
        One q s = Next keeps keeping site code d saved (at r (St.Write (before ++ Going q ∷ []) rs)) s

        insert_one : (s : S) → ((w : TxnState) → move site code.triggers here_at w ≡ Moves.write_one site code.triggers Inserting p before rs o here_at w) →
            Holds One Ends (Phases.write_one keeps site Inserting o p s) → Next keeps keeping site code d saved here_at s
        insert_one s is post =
            charge_then keeps keeping site code d Ends (λ f s1 g. g) After saved Alloc (row_units o) here_at s (λ v. puts (Moves.next_id site code.triggers o v) v) is then
            (bound One Ends (charge keeps Alloc (row_units o) s) (λ u s1. Gives (new (Phases.next_id keeps site o s1)) (Phases.put keeps site (Phases.next_id keeps site o s1) p.row (mint keeps site s1))) post) where
              new : List ℕ → Pending
              new id = record p { row = written id p.row }

              minting : TxnState → TxnState
              minting v = record v { minted = v.minted + 1 }

              puts : List ℕ → TxnState → Move
              puts id v = is_written (new id) before rs here_at (Moves.put id p.row (minting v))

              After : S → Type 0
              After s1 = One (new (Phases.next_id keeps site o s1)) (Phases.put keeps site (Phases.next_id keeps site o s1) p.row (mint keeps site s1))

              then : (w v : TxnState) → move site code.triggers here_at w ≡ puts (Moves.next_id site code.triggers o v) v → Alike saved v (keeps.txn (after_charge keeps keeping site code d Alloc (row_units o) s)) →
                  After (after_charge keeps keeping site code d Alloc (row_units o) s) → d.Runs here_at w s
              then w v e a h =
                  goes_to keeps keeping site code d here_at (at r (St.Write (before ++ Going (new id) ∷ []) rs)) w (Moves.put id p.row (minting v)) s (Phases.put keeps site id p.row s2)
                  (leads_on keeps keeping s s2 _ (leads_on keeps keeping s s1 _ (leads_charge keeps keeping site code d Alloc (row_units o) s) refl) refl)
                  (e ∙ ap (λ m. puts (minted_id o.prefix site.ticket.session site.ticket.index (m + 1)) v) a.minted)
                  (h (Moves.put id p.row (minting v)) (alike_kept keeps keeping saved _ _ s2 (alike_put saved (minting v) (keeps.txn s2) id p.row
                  (alike_kept keeps keeping saved (minting v) (record (keeps.txn s1) { minted = (keeps.txn s1).minted + 1 }) s1 (record { overlay = a.overlay; minted = ap (λ m. m + 1) a.minted; counts = a.counts; eight = a.eight }))))) where
                    s1 : S
                    s1 = after_charge keeps keeping site code d Alloc (row_units o) s

                    s2 : S
                    s2 = mint keeps site s1

                    id : List ℕ
                    id = Phases.next_id keeps site o s1

        update_one : (s : S) → ((w : TxnState) → move site code.triggers here_at w ≡ Moves.write_one site code.triggers Updating p before rs o here_at w) →
            Holds One Ends (Phases.write_one keeps site Updating o p s) → Next keeps keeping site code d saved here_at s
        update_one s is post =
            charge_then keeps keeping site code d Ends (λ f s1 g. g) (λ s1. One q (Phases.put keeps site p.row.id p.row s1)) saved Alloc (row_units o) here_at s
            (λ v. is_written q before rs here_at (Moves.put p.row.id p.row v)) is
            (λ w v e a h.
            goes_to keeps keeping site code d here_at (at r (St.Write (before ++ Going q ∷ []) rs)) w (Moves.put p.row.id p.row v) s (Phases.put keeps site p.row.id p.row (after_charge keeps keeping site code d Alloc (row_units o) s))
            (leads_on keeps keeping s (after_charge keeps keeping site code d Alloc (row_units o) s) _ (leads_charge keeps keeping site code d Alloc (row_units o) s) refl) e
            (h (Moves.put p.row.id p.row v) (alike_kept keeps keeping saved _ _ _ (alike_put saved v (keeps.txn (after_charge keeps keeping site code d Alloc (row_units o) s)) p.row.id p.row a))))
            (bound One Ends (charge keeps Alloc (row_units o) s) (λ u s1. Gives q (Phases.put keeps site p.row.id p.row s1)) post) where
              q : Pending
              q = record p { row = written p.row.id p.row }

        delete_one : (s : S) → ((w : TxnState) → move site code.triggers here_at w ≡ Moves.write_one site code.triggers Deleting p before rs o here_at w) →
            Holds One Ends (Phases.write_one keeps site Deleting o p s) → Next keeps keeping site code d saved here_at s
        delete_one s is post =
            λ w a.
            goes_to keeps keeping site code d here_at (at r (St.Write (before ++ Going p ∷ []) rs)) w (Moves.without p.under w) s (set_overlay keeps (drop_all p.under (overlay_of keeps site s)) s)
            (leads_on keeps keeping s s _ (leads_self keeps keeping s) refl) (is w)
            (post (Moves.without p.under w) (alike_kept keeps keeping saved _ _ s (alike_without saved w (keeps.txn s) p.under a)))

        one_at : (act : Act) (s : S) → ((w : TxnState) → move site code.triggers here_at w ≡ Moves.write_one site code.triggers act p before rs o here_at w) →
            Holds One Ends (Phases.write_one keeps site act o p s) → Next keeps keeping site code d saved here_at s
        one_at Inserting s is post = insert_one s is post
        one_at Updating s is post = update_one s is post
        one_at Deleting s is post = delete_one s is post

      -- what comes behind the writing, where these records were written before
      abbrev Written : List Record → List Record → S → Type 0
      Written before more s = Then (behind P.Write) (before ++ more) s

      write_at : (rs before : List Record) (s : S) → Holds (Written before) Ends (Phases.write keeps site r.act o rs s) → Next keeps keeping site code d saved (at r (St.Write before rs)) s
      write_at [] before s post =
          plain keeps keeping site code d saved (at r (St.Write before [])) _ s (λ w. found_object (λ x. Moves.write site code.triggers before [] x (at r (St.Write before [])) w) (at r (St.Write before [])) w same)
          (subst (λ es. Then (behind P.Write) es s) (append-nil before) post)
      write_at (Wrong e ∷ rs) before s post =
          plain keeps keeping site code d saved (at r (St.Write before (Wrong e ∷ rs))) (at r (St.Write (before ++ Wrong e ∷ []) rs)) s
          (λ w. found_object (λ x. Moves.write site code.triggers before (Wrong e ∷ rs) x (at r (St.Write before (Wrong e ∷ rs))) w) (at r (St.Write before (Wrong e ∷ rs))) w same)
          (write_at rs (before ++ Wrong e ∷ []) s
          (weaken _ _ Ends (Phases.write keeps site r.act o rs s) (λ more s1 g. subst (λ es. Then (behind P.Write) es s1) (sym (append_assoc before (Wrong e ∷ []) more)) g)
          (bound (Written before) Ends (Phases.write keeps site r.act o rs s) (λ more s1. Gives (Wrong e ∷ more) s1) post)))
      write_at (Going p ∷ rs) before s post =
          one_at p before rs r.act s
          (λ w. found_object (λ x. Moves.write site code.triggers before (Going p ∷ rs) x (at r (St.Write before (Going p ∷ rs))) w) (at r (St.Write before (Going p ∷ rs))) w same)
          (weaken _ _ Ends (Phases.write_one keeps site r.act o p s)
          (λ q s1 h.
          write_at rs (before ++ Going q ∷ []) s1
          (weaken _ _ Ends (Phases.write keeps site r.act o rs s1) (λ more s2 g. subst (λ es. Then (behind P.Write) es s2) (sym (append_assoc before (Going q ∷ []) more)) g)
          (bound (Written before) Ends (Phases.write keeps site r.act o rs s1) (λ more s2. Gives (Going q ∷ more) s2) h)))
          (bound (Written before) Ends (Phases.write_one keeps site r.act o p s) (λ q s1. bind (Phases.write keeps site r.act o rs s1) (λ more s2. Gives (Going q ∷ more) s2)) post))

      -- ---- the phases behind the loading, and the whole chunk, where no record has roll-ups

      abbrev Settles : List Record → S → Type 0
      Settles rs s = Then St.Settle rs s

      module _ (none : (n : ℕ) (rs : List Record) (s : S) → code.roll_up n rs s ≡ Gives rs s) where
        phases_at : (rs : List Record) (s : S) →
            Holds Settles Ends
            (bind (enter keeps site (looks keeps site (λ v es. refer site v r.act o es)) rs s) (λ r2 s2.
            bind (enter keeps site (trigger keeps site code r.act true r.object) r2 s2) (λ r3 s3.
            bind (enter keeps site (looks keeps site (λ v es. validate site v r.act r.object o es)) r3 s3) (λ r4 s4.
            bind (enter keeps site (Phases.write keeps site r.act o) r4 s4) (λ r5 s5.
            bind (enter keeps site (trigger keeps site code r.act false r.object) r5 s5) (λ r6 s6.
            enter keeps site (code.roll_up r.object) r6 s6)))))) →
            Next keeps keeping site code d saved (at r (St.Enter P.Refer rs)) s
        phases_at rs s post =
            enter_at P.Refer (looks keeps site (λ v es. refer site v r.act o es)) rs s refer_at
            (weaken _ _ Ends (enter keeps site (looks keeps site (λ v es. refer site v r.act o es)) rs s) (λ r2 s2 h2.
            enter_at P.Before (trigger keeps site code r.act true r.object) r2 s2 (trigger_at true)
            (weaken _ _ Ends (enter keeps site (trigger keeps site code r.act true r.object) r2 s2) (λ r3 s3 h3.
            enter_at P.Validate (looks keeps site (λ v es. validate site v r.act r.object o es)) r3 s3 validate_at
            (weaken _ _ Ends (enter keeps site (looks keeps site (λ v es. validate site v r.act r.object o es)) r3 s3) (λ r4 s4 h4.
            enter_at P.Write (Phases.write keeps site r.act o) r4 s4 (λ es s5 h. write_at es [] s5 h)
            (weaken _ _ Ends (enter keeps site (Phases.write keeps site r.act o) r4 s4) (λ r5 s5 h5.
            enter_at P.After (trigger keeps site code r.act false r.object) r5 s5 (trigger_at false)
            (weaken _ _ Ends (enter keeps site (trigger keeps site code r.act false r.object) r5 s5) (λ r6 s6 h6.
            enter_at P.RollUp (code.roll_up r.object) r6 s6 (λ es s7 h. subst (λ z. Holds Settles Ends z) (none r.object es s7) h) h6)
            (bound Settles Ends (enter keeps site (trigger keeps site code r.act false r.object) r5 s5) _ h5)))
            (bound Settles Ends (enter keeps site (Phases.write keeps site r.act o) r4 s4) _ h4)))
            (bound Settles Ends (enter keeps site (looks keeps site (λ v es. validate site v r.act r.object o es)) r3 s3) _ h3)))
            (bound Settles Ends (enter keeps site (trigger keeps site code r.act true r.object) r2 s2) _ h2)))
            (bound Settles Ends (enter keeps site (looks keeps site (λ v es. refer site v r.act o es)) rs s) _ post))

        -- an attempt begins, with other overlays to go back to than before
        pub chunk_at : (outside : List Overlay) (s : S) → ((w : TxnState) → move site code.triggers (at r St.Begin) w ≡ started (at r St.Begin) w) →
            ((v : TxnState) → Alike outside v (keeps.txn (after_charge keeps keeping site code d Steps (length (unplaced r.rows)) s)) →
            Alike saved (marked (not r.all) v) (keeps.txn (after_charge keeps keeping site code d Steps (length (unplaced r.rows)) s))) →
            Holds Settles Ends (save_chunk keeps site code r.act r.by r.object o (unplaced r.rows) s) → Next keeps keeping site code d outside (at r St.Begin) s
        chunk_at outside s is changes post =
            charge_next keeps keeping site code d Ends (λ f s1 g. g) outside saved (marked (not r.all)) Steps (length (unplaced r.rows)) (at r St.Begin) (at r (St.Load [])) s
            (λ w. is w ∙ ap (λ n. charged Steps n w (λ v. Goes (at r (St.Load [])) (marked (not r.all) v))) (sym (length-map r.rows (λ (p : Placed). p.row)))) changes
            (weaken _ _ Ends (charge keeps Steps (length (unplaced r.rows)) s)
            (λ u s1 h. load_at s1 (weaken _ _ Ends (inquire keeps (load site (overlay_of keeps site s1) r.act r.by r.object o (unplaced r.rows)) s1) phases_at
            (bound Settles Ends (inquire keeps (load site (overlay_of keeps site s1) r.act r.by r.object o (unplaced r.rows)) s1) _ h)))
            (bound Settles Ends (charge keeps Steps (length (unplaced r.rows)) s) _ post))
