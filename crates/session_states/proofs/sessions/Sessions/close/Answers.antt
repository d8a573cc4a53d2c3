use Rattle.session_states.proofs.Seen.{as_long, stands, closes_seen, closes_since}
use Rattle.session_states.proofs.sessions.Sessions.close.Goals as goal

pub index-requires : goal.index-requires
index-requires c = as_long c.self.inside.writes _ c.args.session c.self.inside.all.items c.args.self.now c.self.view_is c.requires c.self.inside.all.ok.0

pub index_mut-requires : goal.index_mut-requires
index_mut-requires c = as_long c.self.inside.writes _ c.args.session c.self.inside.all.items c.args.self.now c.self.view_is c.requires c.self.inside.all.ok.0

pub invariant_of-self : goal.invariant_of-self
invariant_of-self c = closes_since c.self.inside.writes c.in_ok-writes.writes c.args.wrote c.self.inside.all.items c.args.session c.index.result.now c.in_ok-state.state c.self.invariant c.in_ok-state.ensures c.in_ok-writes.ensures

pub returns-clause-closes : goal.returns-clause-closes
returns-clause-closes c = λ at is. closes_seen c.self.inside.writes c.in_ok-writes.writes c.args.wrote c.self.inside.all.items c.args.session c.index.result.now c.in_ok-state.state c.args.self.now at c.self.invariant c.self.view_is is (stands c.self.inside.writes c.args.session c.self.inside.all.items c.args.self.now c.index.result.now c.self.view_is c.requires c.index.ensures) c.in_ok-state.ensures c.in_ok-writes.ensures
