use Rattle.std.proofs.Common.{rules, ◌≡◌, ◌++◌, ◌∷◌, [], bytes_eq}
use Rattle.indexmap.proofs.MapLemmas.{Missing-position, insert_entry-absent}
use Rattle.indexmap.specs.IndexMap.{insert_entry}
use Rattle.local_scopes.proofs.Scope.declare.Goals as goal

pub returns-clause-ok : goal.returns-clause-ok
returns-clause-ok c =
    let last : insert_entry bytes_eq c.args.self.now c.args.name c.args.kind ≡ c.args.self.now ++ (c.args.name, c.args.kind) ∷ [] =
    insert_entry-absent bytes_eq c.args.name c.args.kind c.args.self.now ((Missing-position (bytes_eq c.args.name) c.args.self.now c.requires).absent) in
    search rules
