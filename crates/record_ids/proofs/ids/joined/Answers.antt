use Rattle.std.proofs.Common.{rules, ◌≡◌, length}
use Rattle.record_ids.proofs.Steps.{has_name, named_is}
use Rattle.record_ids.proofs.ids.joined.Goals as goal

pub unreachable-requires : goal.unreachable-requires
unreachable-requires c =
    let lp : length c.args.prefix ≡ 3 = search rules in
    let ls : length c.args.session ≡ 4 = search rules in
    let lr : length c.args.request ≡ 4 = search rules in
    let lc : length c.args.count ≡ 4 = search rules in
    has_name c.args.prefix c.args.session c.args.request c.args.count lp ls lr lc c.requires.prefix c.requires.session c.requires.request c.requires.count c.in-None.ensures.named

pub returns : goal.returns
returns c =
    let lp : length c.args.prefix ≡ 3 = search rules in
    let ls : length c.args.session ≡ 4 = search rules in
    let lr : length c.args.request ≡ 4 = search rules in
    let lc : length c.args.count ≡ 4 = search rules in
    named_is c.args.prefix c.args.session c.args.request c.args.count lp ls lr lc c.in-Some.id c.in-Some.ensures.named
