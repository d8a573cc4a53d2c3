use Rattle.session_states.specs.States.{begins_again}
use Rattle.session_states.proofs.Seen.{as_long, stands, changes, begins_is, begins_since}
use Rattle.session_states.proofs.sessions.Sessions.restart.Goals as goal

pub index-requires : goal.index-requires
index-requires c = as_long c.self.inside.writes _ c.args.session c.self.inside.all.items c.args.self.now c.self.view_is c.requires c.self.inside.all.ok.0

pub index_mut-requires : goal.index_mut-requires
index_mut-requires c = as_long c.self.inside.writes _ c.args.session c.self.inside.all.items c.args.self.now c.self.view_is c.requires c.self.inside.all.ok.0

pub invariant_of-self : goal.invariant_of-self
invariant_of-self c = begins_since c.self.inside.writes c.self.inside.all.items c.args.session c.index.result.now c.in_ok-state.state c.self.invariant c.in_ok-state.ensures

pub returns-clause-restarts : goal.returns-clause-restarts
returns-clause-restarts c = λ at is. changes c.self.inside.writes c.args.session c.self.inside.all.items c.args.self.now c.index.result.now c.in_ok-state.state begins_again at c.self.view_is is (stands c.self.inside.writes c.args.session c.self.inside.all.items c.args.self.now c.index.result.now c.self.view_is c.requires c.index.ensures) (begins_is c.self.inside.writes c.index.result.now c.in_ok-state.state c.in_ok-state.ensures)
