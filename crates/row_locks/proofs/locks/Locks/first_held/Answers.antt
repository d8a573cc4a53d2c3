use Rattle.std.proofs.Common.{sym, ◌∙◌}
use Rattle.row_locks.specs.Locks.{holder_of}
use Rattle.row_locks.proofs.Lists.{none_more, first_at}
use Rattle.row_locks.proofs.locks.Locks.first_held.Goals as goal

pub returns-in-Some : goal.returns-in-Some
returns-in-Some c =
    first_at (holder_of c.args.tenant c.args.self.now.locks) c.args.session c.args.ids.now c.ids.k c.index-ids-k.result c.in-Some.holder c.ids-test.true c.index-ids-k.is
    (sym c.other.ensures ∙ c.in-Some.is) c.ids.invariant

pub ids-preserved : goal.ids-preserved
ids-preserved c =
    none_more (holder_of c.args.tenant c.args.self.now.locks) c.args.session c.args.ids.now c.ids.k c.index-ids-k.result c.ids-test.true c.index-ids-k.is (sym c.other.ensures ∙ c.in_default.is) c.ids.invariant
