-- A request as its machine goes on.
use Rattle.std.proofs.Common.{◌≡◌, refl, sym, subst, ℕ, ◌+◌, ◌<◌, List, [], ◌∷◌, ◌++◌, true, Option, None, Some}
use Rattle.std.specs.Prelude.{Result, Ok, Err, IfOk, OnOk}
use Rattle.apex_requests.specs.declared.reply.Reply.{Reply}
use Rattle.apex_requests.specs.declared.request.Ticket.{Ticket}
use Rattle.apex_requests.specs.declared.request.Work.TheVariants.{Apex}
use Rattle.apex_rows.specs.declared.query.Answer.{Answer}
use Rattle.apex_rows.specs.declared.query.Question.{Question}
use Rattle.apex_rows.specs.declared.row.Writes.{Writes}
use Rattle.apex_schema.specs.declared.schema.Schema.{Schema}
use Rattle.record_store.specs.Heaps.{rows_in}
use Rattle.legal_trails.specs.Legal.{SameReply}
use Rattle.tenant_trails.specs.Runs.{Asks, Ends}
use Rattle.stack_code.specs.Steps.{given}
use Rattle.stack_code.specs.declared.image.Image.{Image}
use Rattle.tenant_shards.specs.declared.log.Log.{Log}
use Rattle.tenant_shards.specs.Logs.{IsCurrent}
use Rattle.tenant_shards.specs.Shards.{MayEnd, Shared}
use Rattle.metered_vm.specs.declared.run.Pause.TheVariants as P
use Rattle.metered_vm.specs.declared.run.Vm.{Vm}
use Rattle.metered_vm.specs.Runs.{Pauses, Ran, Waits, plain}
use Rattle.session_turns.specs.declared.calls.Next.{Next}
use Rattle.session_turns.specs.declared.calls.Next.TheVariants.{Goes, Again, Over}
use Rattle.session_runs.specs.Blocks.{told_of}
use Rattle.session_turns.specs.Calls.{Answers, Beside, EndsIn, GoesOn, IsAt, IsLast, IsOn, Logs, MayAsk, MayBeginAgain, MovesSo, go_of, later_tape}
use Rattle.session_runs.specs.Sessions.{EndsWork}
use Rattle.session_turns.proofs.Attempts.{again_on, asked_again, asked_again_moves, end_again_moves, ended_closes, ended_moves, fewer_still, may_ask, may_begin_again, may_end, met, met_moves, refused_closes, refused_moves}
use Rattle.session_turns.proofs.Machine.{ends, goes}

-- the reply as it is told
abbrev pub told_reply : Reply → Reply
told_reply reply = record reply { ops = told_of reply.outcome reply.ops }

same_told : (reply : Reply) → SameReply (told_reply reply) (plain reply)
same_told reply = record { outcome = refl; debug = refl; counts = refl }

module _ (schema : Schema) (image : Image) (ticket : Ticket) (block tenant restarts : ℕ) (old : Vm) (answer : Option Answer) (log : Log) (shard : Shared) (at : IsAt schema image ticket block tenant restarts old answer log shard) (last : IsLast tenant restarts log shard) (vm : Vm) where
  pub again : MayBeginAgain shard tenant ticket.session log
  again = may_begin_again schema image ticket (Apex block) tenant restarts log shard at.on last

  module _ (q : Question) (p : Pauses schema ticket image block log.answers (P.Need q) vm) where
    next : go_of schema at.on.part ticket (Apex block) log.answers ≡ Asks q
    next = goes schema at.on.part ticket image block at.on.means at.has_code log.answers p.0.0 (Asks q) p.0.1

    pub may : MayAsk shard tenant ticket.session log q
    may = may_ask schema image ticket (Apex block) tenant restarts log shard at.on q next

    goes_on : Waits image (P.Need q) vm → (a : Answer) (new : Log) (after : Shared) → Logs log q new (Goes a) → Beside tenant ticket.session shard after → Answers tenant ticket.session log q shard after (Goes a) →
        GoesOn schema image ticket block tenant restarts log shard vm new after (Goes a)
    goes_on w a new after l beside r =
        let m = met schema image ticket (Apex block) tenant restarts log shard at.on q a new after l.0 l.1 next r.0 beside.keeps r.1 in (
          record {
            on = m.0;
            has_code = at.has_code;
            ran = subst (λ tape. Ran schema ticket image block tape vm.ops (given vm.config a)) (sym l.1) (p.1 a);
            stands = w;
          },
          m.1,
        )

    pub asked_on : Waits image (P.Need q) vm → (r : Next) (new : Log) (after : Shared) → Answers tenant ticket.session log q shard after r → Logs log q new r → Beside tenant ticket.session shard after → GoesOn schema image ticket block tenant restarts log shard vm new after r
    asked_on w (Goes a) new after r l beside = goes_on w a new after l beside r
    asked_on w Again new after r l beside =
        let h = asked_again schema image ticket (Apex block) tenant restarts log shard at.on q after r in
        let few = fewer_still schema image ticket (Apex block) tenant restarts log shard at.on h.0 h.1 last in
        (few, again_on schema image ticket (Apex block) tenant restarts log shard at.on after beside.keeps few h.2)
    asked_on w Over new after r l beside = refused_closes schema image ticket (Apex block) tenant restarts log shard at.on q after r

    pub asked_moves : (r : Next) (new : Log) (after : Shared) → Answers tenant ticket.session log q shard after r → Logs log q new r → MovesSo image tenant ticket.session log.answers (later_tape r new.answers) shard after
    asked_moves (Goes a) new after r l = met_moves schema image ticket (Apex block) tenant restarts log shard at.on q a new after l.1 next r.0 r.1
    asked_moves Again new after r l = asked_again_moves schema image ticket (Apex block) tenant restarts log shard at.on q after next last r
    asked_moves Over new after r l = refused_moves schema image ticket (Apex block) tenant restarts log shard at.on q after next r

    pub all_asked_on : {E : Type 0} → Waits image (P.Need q) vm → (r : Result Next E) (new : Log) (after : Shared) → IfOk r (Answers tenant ticket.session log q shard after) → IfOk r (Logs log q new) → OnOk r (Beside tenant ticket.session shard after) →
        IfOk r (GoesOn schema image ticket block tenant restarts log shard vm new after)
    all_asked_on w (Ok r) new after h l beside = asked_on w r new after h l beside
    all_asked_on w (Err e) new after h l beside = tt

    pub all_asked_moves : {E : Type 0} (r : Result Next E) (new : Log) (after : Shared) → IfOk r (Answers tenant ticket.session log q shard after) → IfOk r (Logs log q new) → IfOk r (λ next. MovesSo image tenant ticket.session log.answers (later_tape next new.answers) shard after)
    all_asked_moves (Ok r) new after h l = asked_moves r new after h l
    all_asked_moves (Err e) new after h l = tt

  module _ (reply : Reply) (writes : Writes) (p : Pauses schema ticket image block log.answers (P.End reply writes) vm) (told : Reply) (is_told : told ≡ told_reply reply) where
    end : go_of schema at.on.part ticket (Apex block) log.answers ≡ Ends (plain reply) writes
    end = goes schema at.on.part ticket image block at.on.means at.has_code log.answers p.0 (Ends (plain reply) writes) p.1

    same : SameReply told (plain reply)
    same = subst (λ r. SameReply r (plain reply)) (sym is_told) (same_told reply)

    pub may_close : MayEnd shard tenant ticket.session log told writes
    may_close = may_end schema image ticket (Apex block) tenant restarts log shard at.on told (plain reply) writes end same

    comes : IsCurrent (rows_in tenant shard.rows) log → EndsWork schema ticket image (Apex block) (rows_in tenant shard.rows) told writes
    comes current =
        subst (λ r. EndsWork schema ticket image (Apex block) (rows_in tenant shard.rows) r writes) (sym is_told)
        (ends schema at.on.part ticket image block at.on.means at.has_code (rows_in tenant shard.rows) log.asked log.answers reply writes vm at.on.asks current p)

    end_on : (r : Next) (new : Log) (after : Shared) → EndsIn tenant ticket.session log told writes shard after r → Beside tenant ticket.session shard after → GoesOn schema image ticket block tenant restarts log shard vm new after r
    end_on (Goes a) new after h beside = absurd h
    end_on Again new after h beside =
        let few = fewer_still schema image ticket (Apex block) tenant restarts log shard at.on h.0 h.1 last in
        (few, again_on schema image ticket (Apex block) tenant restarts log shard at.on after beside.keeps few h.2)
    end_on Over new after h beside = ended_closes schema image ticket (Apex block) tenant restarts log shard at.on told (plain reply) writes end after h

    end_moves : (r : Next) (tape : List Answer) (after : Shared) → EndsIn tenant ticket.session log told writes shard after r → MovesSo image tenant ticket.session log.answers (later_tape r tape) shard after
    end_moves (Goes a) tape after h = absurd h
    end_moves Again tape after h = end_again_moves schema image ticket (Apex block) tenant restarts log shard at.on told (plain reply) writes end after last h
    end_moves Over tape after h = ended_moves schema image ticket (Apex block) tenant restarts log shard at.on told (plain reply) writes end after same comes h

    pub all_end_on : {E : Type 0} (r : Result Next E) (new : Log) (after : Shared) → IfOk r (EndsIn tenant ticket.session log told writes shard after) → OnOk r (Beside tenant ticket.session shard after) → IfOk r (GoesOn schema image ticket block tenant restarts log shard vm new after)
    all_end_on (Ok r) new after h beside = end_on r new after h beside
    all_end_on (Err e) new after h beside = tt

    pub all_end_moves : {E : Type 0} (r : Result Next E) (tape : List Answer) (after : Shared) → IfOk r (EndsIn tenant ticket.session log told writes shard after) → IfOk r (λ next. MovesSo image tenant ticket.session log.answers (later_tape next tape) shard after)
    all_end_moves (Ok r) tape after h = end_moves r tape after h
    all_end_moves (Err e) tape after h = tt
