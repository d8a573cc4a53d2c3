use Rattle.session_turns.proofs.Sessions.{has_ids, has_request, open_at, tried_at}
use Rattle.session_turns.proofs.one_turn.turn.Goals as goal

pub goes_on-requires-clause-ids : goal.goes_on-requires-clause-ids
goes_on-requires-clause-ids c =
    has_ids c.args.requests.now c.index-requests-index.result c.args.session c.args.standing.now.closed c.ticket_of-ticket.result c.requires.few c.requires.users c.requires.id c.requires.unfinished c.index-requests-index.is c.ticket_of-ticket.ensures

pub goes_on-requires-clause-tried : goal.goes_on-requires-clause-tried
goes_on-requires-clause-tried c =
    tried_at c.args.schema.now c.args.image.now c.args.requests.now c.index-requests-index.result c.args.tenant c.args.session c.args.standing.now.closed c.ticket_of-ticket.result c.in-Some.attempt c.args.shard.now
    (open_at c.args.schema.now c.args.image.now c.args.requests.now c.args.tenant c.args.session c.args.standing.now.closed c.args.standing.now.running c.in-Some.attempt c.args.shard.now c.in-Some.is c.requires.stands)
    c.requires.unfinished c.index-requests-index.is c.ticket_of-ticket.ensures

pub begins-requires-clause-has : goal.begins-requires-clause-has
begins-requires-clause-has c =
    has_request c.args.schema.now c.args.image.now c.args.requests.now c.index-requests-index.result c.args.tenant c.args.session c.args.standing.now.closed c.args.shard.now c.requires.has c.requires.unfinished c.index-requests-index.is
