use Rattle.session_states.proofs.Seen.{as_long, stands, next_is}
use Rattle.session_states.proofs.sessions.Sessions.next.Goals as goal

pub index-requires : goal.index-requires
index-requires c = as_long c.self.inside.writes _ c.args.session c.self.inside.all.items c.args.self.now c.self.view_is c.requires c.self.inside.all.ok.0

pub returns : goal.returns
returns c = λ at is. next_is c.self.inside.writes c.args.session c.self.inside.all.items c.args.self.now c.index.result.now at c.self.view_is is (stands c.self.inside.writes c.args.session c.self.inside.all.items c.args.self.now c.index.result.now c.self.view_is c.requires c.index.ensures)
