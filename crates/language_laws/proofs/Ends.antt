-- What blocks come to.
use Rattle.std.proofs.Common.{◌≡◌, ℕ, suc, ◌+◌, ◌<◌, ◌≤◌, Bool, true, false, List, [], ◌∷◌, ◌++◌, map, Option, None, Some, refl, sym, ap, ◌∙◌, subst, append-nil, arith}
use Rattle.std.proofs.lemmas.Bool.{leb-true, leb-false}
use Rattle.activations.specs.declared.abrupt.Abrupt.{Abrupt}
use Rattle.activations.specs.declared.abrupt.Abrupt.TheVariants.{Throws, Returns, Breaks, Continues}
use Rattle.apex_num.specs.declared.kind.LimitKind.{LimitKind}
use Rattle.apex_num.specs.declared.kind.LimitKind.TheVariants.{Queries, Rows, Dml, Saved, Steps}
use Rattle.apex_requests.specs.declared.reply.Outcome.{Outcome}
use Rattle.apex_requests.specs.declared.reply.Outcome.TheVariants.{Ok}
use Rattle.apex_requests.specs.declared.reply.Reply.{Reply}
use Rattle.apex_rows.specs.declared.query.Answer.{Answer}
use Rattle.apex_rows.specs.declared.query.Question.{Question}
use Rattle.apex_rows.specs.declared.row.Writes.{Writes}
use Rattle.limit_meter.specs.Charges.{counter, limit_of, fits}
use Rattle.save_meaning.specs.Transactions.{charge_if}
use Rattle.save_meaning.specs.Results.{Finish, Halts, Needs, Unfinished, Unbuilt, Gives, Stops, Leaves, Closes, bind}
use Rattle.request_states.specs.Refusals.{no_writes, refusal, not_yet}
use Rattle.request_states.specs.Runs.{Setting, first_state, ended}
use Rattle.request_states.specs.States.{State, World, Res, charge, keeps}
use Rattle.tenant_trails.specs.Runs.{Asks, Ends}
use Rattle.typed_program.specs.declared.stmt.TypedCatch.{TypedCatch}
use Rattle.typed_program.specs.declared.stmt.TypedStmt.{TypedStmt}
use Rattle.typed_program.specs.declared.stmt.TypedStmt.TheOpen.{TypedStmt-F}
use Rattle.typed_program.specs.declared.stmt.TypedStmt.TheFolds.{fold-TypedCatch, fold-roll-TypedStmt}
use Rattle.apex_meaning.specs.Bodies.{rounds, enough}
use Rattle.apex_meaning.specs.Exceptions.{Clause, catching}
use Rattle.apex_meaning.specs.Meanings.{Again, Do, finally}
use Rattle.typed_program.specs.declared.program.Program.{Program}
use Rattle.apex_meaning.specs.Runs.{names_of, run_of, block_does}
use Rattle.apex_meaning.specs.Statements as D
use Rattle.apex_meaning.specs.Statements.{does_all}
use Rattle.language_laws.specs.Limits
use Rattle.language_laws.specs.Limits.{state_of, left_at, Within, Passed, trying}
use Rattle.language_laws.specs.Rounds.{RoundsSuffice}
use Rattle.language_laws.proofs.Bodies.{paid_block}
use Rattle.language_laws.proofs.Paid.{Comes}
use Rattle.language_laws.proofs.Worlds.{Sound, sound_none, Later}

-- ---- where a block begins, and what it comes to

-- whatever a block comes to is later, since it is no end without rounds
later_of : (program : Program) (w : World) (r : Res (Unit {0})) → Comes program w r → Later program w (state_of r).world
later_of program w (Gives u st) c = c.holds
later_of program w (Stops (Leaves why) st) c = c.holds
later_of program w (Stops (Closes (Halts k n)) st) c = (c.holds).0
later_of program w (Stops (Closes (Needs q)) st) c = c.holds
later_of program w (Stops (Closes Unfinished) st) c = absurd c.holds
later_of program w (Stops (Closes Unbuilt) st) c = c.holds

above : (n m : ℕ) → n < suc n + m
above n m = omega arith

module _ (setting : Setting) where
  comes_from : (block : List TypedStmt) (st : State) → Sound st.world.txn.charges → Comes setting.program st.world (block_does setting block st)
  comes_from block st h = (paid_block setting (names_of setting) block).at st h (above _ _)

  block_comes : (tape : List Answer) (block : List TypedStmt) → Comes setting.program (first_state tape).world (block_does setting block (first_state tape))
  block_comes tape block = comes_from block (first_state tape) sound_none

  left_later : (tape : List Answer) (block : List TypedStmt) → Later setting.program (first_state tape).world (left_at setting block tape).world
  left_later tape block = later_of setting.program (first_state tape).world (block_does setting block (first_state tape)) (block_comes tape block)

pub rounds_suffice : RoundsSuffice
rounds_suffice setting block tape st e = (subst (λ r. Comes setting.program (first_state tape).world r) e (block_comes setting tape block)).holds

-- ---- limits

pub counters_stay : Limits.CountersStayWithin
counters_stay setting block tape k = (left_later setting tape block).sound.within k

-- a charge by what tells whether it fits
charge_exact : (k : LimitKind) (n : ℕ) (st : State) (b : Bool) → fits k n st.world.txn.charges ≡ b →
    (counter k st.world.txn.charges + n ≤ limit_of k → charge_if keeps {E = Abrupt} b k n st ≡ Gives tt (Limits.charged_state k n st))
    × (limit_of k < counter k st.world.txn.charges + n → charge_if keeps {E = Abrupt} b k n st ≡ Stops (Closes (Halts k (limit_of k + 1))) st)
charge_exact k n st true e = let le = leb-true (counter k st.world.txn.charges + n) (limit_of k) e in (λ fit. refl, λ pass. absurd (omega arith))
charge_exact k n st false e = let lt = leb-false (counter k st.world.txn.charges + n) (limit_of k) e in (λ fit. absurd (omega arith), λ pass. refl)

pub charges_exact : Limits.ChargesAreExact
charges_exact k n st = charge_exact k n st (fits k n st.world.txn.charges) refl

pub halts_at_charges : Limits.HaltsAreAtCharges
halts_at_charges setting block tape k n st e = ((subst (λ r. Comes setting.program (first_state tape).world r) e (block_comes setting tape block)).holds).1

same_reply : {a b : Reply} {v w : Writes} → Ends a v ≡ Ends b w → a ≡ b
same_reply e = cc

same_writes : {a b : Reply} {v w : Writes} → Ends a v ≡ Ends b w → w ≡ v
same_writes e = cc

asks_no_end : {q : Question} {b : Reply} {w : Writes} → Asks q ≡ Ends b w → ⊥
asks_no_end e = cc

ended_within : (o : Outcome) (w : World) → Sound w.txn.charges → Within (ended o w).counts
ended_within o w h = record { queries = h.within Queries; rows = h.within Rows; dml = h.within Dml; saved = h.within Saved; steps = h.within Steps }

none_within : Within (refusal not_yet).counts
none_within = record { queries = omega arith; rows = omega arith; dml = omega arith; saved = omega arith; steps = omega arith }

module _ (setting : Setting) (tape : List Answer) where
  counted : {a : Reply} (reply : Reply) {v w : Writes} → Ends a v ≡ Ends reply w → Within a.counts → Within reply.counts
  counted reply e h = subst (λ (x : Reply). Within x.counts) (same_reply e) h

  replies_of : (r : Res (Unit {0})) (reply : Reply) (writes : Writes) → Later setting.program (first_state tape).world (state_of r).world → run_of setting r ≡ Ends reply writes → Within reply.counts
  replies_of (Gives u st) reply writes l e = counted reply e (ended_within Ok st.world l.sound)
  replies_of (Stops (Leaves (Throws t)) st) reply writes l e = counted reply e (ended_within Ok st.world l.sound)
  replies_of (Stops (Leaves (Returns v)) st) reply writes l e = counted reply e (ended_within Ok st.world l.sound)
  replies_of (Stops (Leaves Breaks) st) reply writes l e = counted reply e (ended_within Ok st.world l.sound)
  replies_of (Stops (Leaves Continues) st) reply writes l e = counted reply e (ended_within Ok st.world l.sound)
  replies_of (Stops (Closes (Halts k m)) st) reply writes l e = counted reply e (ended_within Ok st.world l.sound)
  replies_of (Stops (Closes (Needs q)) st) reply writes l e = absurd (asks_no_end e)
  replies_of (Stops (Closes Unfinished) st) reply writes l e = counted reply e none_within
  replies_of (Stops (Closes Unbuilt) st) reply writes l e = counted reply e none_within

  nothing_of : (r : Res (Unit {0})) (reply : Reply) (writes : Writes) → run_of setting r ≡ Ends reply writes → (reply.outcome ≡ Ok → ⊥) → writes ≡ no_writes
  nothing_of (Gives u st) reply writes e n = absurd (n (sym (ap (λ (a : Reply). a.outcome) (same_reply e))))
  nothing_of (Stops (Leaves (Throws t)) st) reply writes e n = same_writes e
  nothing_of (Stops (Leaves (Returns v)) st) reply writes e n = absurd (n (sym (ap (λ (a : Reply). a.outcome) (same_reply e))))
  nothing_of (Stops (Leaves Breaks) st) reply writes e n = absurd (n (sym (ap (λ (a : Reply). a.outcome) (same_reply e))))
  nothing_of (Stops (Leaves Continues) st) reply writes e n = absurd (n (sym (ap (λ (a : Reply). a.outcome) (same_reply e))))
  nothing_of (Stops (Closes (Halts k m)) st) reply writes e n = same_writes e
  nothing_of (Stops (Closes (Needs q)) st) reply writes e n = absurd (asks_no_end e)
  nothing_of (Stops (Closes Unfinished) st) reply writes e n = same_writes e
  nothing_of (Stops (Closes Unbuilt) st) reply writes e n = same_writes e

pub replies_stay : Limits.RepliesStayWithin
replies_stay setting block tape reply writes e = replies_of setting tape (block_does setting block (first_state tape)) reply writes (left_later setting tape block) e

pub nothing_written : Limits.FailedBlocksWriteNothing
nothing_written setting block tape reply writes e n = nothing_of setting tape (block_does setting block (first_state tape)) reply writes e n

-- ---- what stands behind

module _ (setting : Setting) (again : Again) (names : List (List ℕ)) where
  in_two : (before after : List TypedStmt) (st : State) → does_all setting again names (before ++ after) st ≡ bind (does_all setting again names before st) (λ u s. does_all setting again names after s)
  in_two [] after st = refl
  in_two (x ∷ xs) after st = go (D.does setting again names x st) (in_two xs after)
    where
      go : (r : Res (Unit {0})) → ((s : State) → does_all setting again names (xs ++ after) s ≡ bind (does_all setting again names xs s) (λ u s1. does_all setting again names after s1)) →
          bind r (λ u s. does_all setting again names (xs ++ after) s) ≡ bind (bind r (λ u s. does_all setting again names xs s)) (λ u s. does_all setting again names after s)
      go (Gives u s) h = h s
      go (Stops why s) h = refl

  abbrev clause_of : TypedCatch → Clause
  clause_of = fold-TypedCatch Do Clause (D.stmt_step setting again names) (D.catch_step setting again names)

  -- a `try` whose statements come to an end
  try_ends : (body : List TypedStmt) (clauses : List TypedCatch) (last : Option (List TypedStmt)) (start begun st : State) (why : Finish) →
      charge Steps 1 start ≡ Gives tt begun → does_all setting again names body begun ≡ Stops (Closes why) st → D.does setting again names (trying body clauses last) start ≡ Stops (Closes why) st
  try_ends body clauses None start begun st why e h =
      ap (λ f. f start) (fold-roll-TypedStmt Do Clause (D.stmt_step setting again names) (D.catch_step setting again names) (TypedStmt-F.Try body clauses None))
      ∙ ap (λ r. bind r (λ u s. catching setting.program (map clause_of clauses) (does_all setting again names body s))) e
      ∙ ap (λ r. catching setting.program (map clause_of clauses) r) h
  try_ends body clauses (Some last) start begun st why e h =
      ap (λ f. f start) (fold-roll-TypedStmt Do Clause (D.stmt_step setting again names) (D.catch_step setting again names) (TypedStmt-F.Try body clauses (Some last)))
      ∙ ap (λ r. bind r (λ u s. finally (catching setting.program (map clause_of clauses) (does_all setting again names body s)) (does_all setting again names last))) e
      ∙ ap (λ r. finally (catching setting.program (map clause_of clauses) r) (does_all setting again names last)) h

pub rest_behind : Limits.EndsComeBeforeTheRest
rest_behind setting block after start st why e =
    in_two setting (rounds setting (names_of setting) (enough setting.program)) (names_of setting) block after start
    ∙ ap (λ r. bind r (λ u s. does_all setting (rounds setting (names_of setting) (enough setting.program)) (names_of setting) after s)) e

pub tries_see_none : Limits.TriesSeeNoEnd
tries_see_none setting body after clauses last start begun st why e h =
    ap (λ r. bind r (λ u s. does_all setting (rounds setting (names_of setting) (enough setting.program)) (names_of setting) after s))
    (try_ends setting (rounds setting (names_of setting) (enough setting.program)) (names_of setting) body clauses last start begun st why e h)

-- ---- lines

module _ (setting : Setting) (after : List TypedStmt) where
  lines : (r : Res (Unit {0})) → Sound (state_of r).world.txn.charges → (more : List (List ℕ)) × ((state_of (bind r (λ u s. block_does setting after s))).world.debug ≡ (state_of r).world.debug ++ more)
  lines (Gives u s) h = let l = later_of setting.program s.world (block_does setting after s) (comes_from setting after s h) in (l.said.more, l.said.is)
  lines (Stops why s) h = ([], sym (append-nil s.world.debug))

pub lines_stay : Limits.LinesStay
lines_stay setting block after tape =
    subst (λ r. (more : List (List ℕ)) × ((state_of r).world.debug ≡ (left_at setting block tape).world.debug ++ more))
    (sym (in_two setting (rounds setting (names_of setting) (enough setting.program)) (names_of setting) block after (first_state tape)))
    (lines setting after (block_does setting block (first_state tape)) (left_later setting tape block).sound)
