use Rattle.std.proofs.Common.{refl, sym, subst, []}
use Rattle.tenant_shards.specs.Parts.{ticket_of}
use Rattle.session_turns.specs.Turns.{TurnsSo}
use Rattle.session_turns.proofs.Starting.{may_start, opens, opens_beside, opens_turns}
use Rattle.session_turns.proofs.Tries.{tried}
use Rattle.session_turns.proofs.one_turn.begins.Goals as goal

pub start-requires : goal.start-requires
start-requires c = may_start c.args.schema.now c.args.image.now c.args.request.now c.args.tenant c.args.session c.args.standing.now.closed c.args.shard.now c.requires.closed c.requires.has

pub returns-clause-begins : goal.returns-clause-begins
returns-clause-begins c = record {
  closed = refl;
  a = c.begun.result;
  running = refl;
  tried =
      tried c.args.schema.now c.args.image.now (ticket_of c.args.request.now c.args.session c.args.standing.now.closed) c.args.request.now.work c.args.tenant 0 c.begun.result c.start.new.self c.begun.ensures.restarts c.begun.ensures.empty
      (c.begun.ensures.runs c.args.schema.now (ticket_of c.args.request.now c.args.session c.args.standing.now.closed))
      (opens c.args.schema.now c.args.image.now c.args.request.now c.args.tenant c.args.session c.args.standing.now.closed c.args.shard.now c.requires.closed c.requires.has _ c.start.new.self c.in_ok-start.ensures.starts c.start.ensures.keeps);
  fresh = c.begun.ensures.restarts;
}

pub returns-clause-turns : goal.returns-clause-turns
returns-clause-turns c =
    subst (λ tape. TurnsSo c.args.image.now c.args.tenant c.args.session [] tape c.args.shard.now c.start.new.self) (sym c.begun.ensures.empty.1)
    (opens_turns c.args.schema.now c.args.image.now c.args.request.now c.args.tenant c.args.session c.args.standing.now.closed c.args.shard.now c.requires.closed c.requires.has _ c.start.new.self c.in_ok-start.ensures.starts c.start.ensures.keeps)

pub returns-clause-beside : goal.returns-clause-beside
returns-clause-beside c =
    opens_beside c.args.schema.now c.args.image.now c.args.request.now c.args.tenant c.args.session c.args.standing.now.closed c.args.shard.now c.requires.closed c.requires.has _ c.start.new.self c.in_ok-start.ensures.starts c.start.ensures.keeps
