use Rattle.session_states.specs.States.{opens}
use Rattle.session_states.proofs.Seen.{as_long, stands, changes, opens_is, opens_since}
use Rattle.session_states.proofs.sessions.Sessions.start.Goals as goal

pub index-state-requires : goal.index-state-requires
index-state-requires c = as_long c.self.inside.writes _ c.args.session c.self.inside.all.items c.args.self.now c.self.view_is c.requires c.self.inside.all.ok.0

pub index_mut-requires : goal.index_mut-requires
index_mut-requires c = as_long c.self.inside.writes _ c.args.session c.self.inside.all.items c.args.self.now c.self.view_is c.requires c.self.inside.all.ok.0

pub invariant_of-self : goal.invariant_of-self
invariant_of-self c = opens_since c.self.inside.writes c.self.inside.all.items c.args.session c.index-state.result.now c.opened.result c.self.invariant c.opened.ensures

pub returns : goal.returns
returns c = λ at is. changes c.self.inside.writes c.args.session c.self.inside.all.items c.args.self.now c.index-state.result.now c.opened.result opens at c.self.view_is is (stands c.self.inside.writes c.args.session c.self.inside.all.items c.args.self.now c.index-state.result.now c.self.view_is c.requires c.index-state.ensures) (opens_is c.self.inside.writes c.index-state.result.now c.opened.result c.opened.ensures)
