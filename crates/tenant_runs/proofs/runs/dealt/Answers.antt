use Rattle.std.proofs.Common.{arith, ◌∙◌, ◌++◌, ◌∷◌, []}
use Rattle.std.specs.Prelude.{replicate}
use Rattle.tenant_runs.proofs.Deals.{dealt_beyond, dealt_there, front_more}
use Rattle.tenant_runs.proofs.runs.dealt.Goals as goal
use Rattle.tenant_runs.proofs.runs.dealt.Goals.{then-tenant-len, else-tenant-len}

pub left-preserved : goal.left-preserved
left-preserved c =
    let front = c.left.invariant.2.0 in
    let f = c.in-Some.finished in (
      tt,
      tt,
      (
        front ++ f ∷ [],
        front_more c.args.left front c.left.finished-iterator.rest.items c.next.new.self.rest.items f c.left.invariant.2.1 c.in-Some.ensures.steps.0,
        elim c.if-tenant-len.branch [
          | then-tenant-len w ↦ dealt_there (replicate c.args.count []) c.left.trails c.if-tenant-len.trails front f c.left.invariant.2.2 (w.trails-is ∙ w.set.ensures)
          | else-tenant-len w ↦ w.trails-is ∙ dealt_beyond (replicate c.args.count []) c.left.trails front f c.left.invariant.2.2 (let length_is = c.len.ensures in let le = w.if-tenant-len.false in omega (arith, length_is, le))
        ],
      ),
    )
