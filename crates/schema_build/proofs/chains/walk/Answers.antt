use Rattle.std.proofs.Common.{◌+◌, sym, ◌∙◌, refl, arith, length}
use Rattle.schema_build.proofs.ChainSteps.{path_ends, is_beyond, one_further, too_long, noted}
use Rattle.schema_build.proofs.chains.walk.Goals as goal

pub returns-then-more-most : goal.returns-then-more-most
returns-then-more-most c =
    let h = noted c.args.parents.now c.args.notes.now c.requires c.steps.role c.in-Some.more (sym c.note.ensures ∙ c.in-Some.is) in
    (path_ends c.args.parents.now c.steps.k c.in-Some.more c.args.from c.steps.role (c.steps.k + c.in-Some.more) refl c.steps.invariant h, omega arith)

pub returns-else-more-most : goal.returns-else-more-most
returns-else-more-most c =
    let h = noted c.args.parents.now c.args.notes.now c.requires c.steps.role c.in-Some.more (sym c.note.ensures ∙ c.in-Some.is) in
    is_beyond c.args.parents.now (length c.args.parents.now) (c.steps.k + c.in-Some.more) c.args.from (omega arith) (path_ends c.args.parents.now c.steps.k c.in-Some.more c.args.from c.steps.role (c.steps.k + c.in-Some.more) refl c.steps.invariant h)

pub returns-in-None : goal.returns-in-None
returns-in-None c =
    (path_ends c.args.parents.now c.steps.k 0 c.args.from c.steps.role c.steps.k (omega arith) c.steps.invariant (sym c.parent.ensures ∙ c.in-None.is), omega arith)

pub steps-preserved : goal.steps-preserved
steps-preserved c = one_further c.args.parents.now c.steps.k c.args.from c.steps.role c.in-Some-parent.next c.steps.invariant (sym c.parent.ensures ∙ c.in-Some-parent.is)

pub returns : goal.returns
returns c = too_long c.args.parents.now (length c.args.parents.now) c.steps.k c.args.from c.steps.role (omega arith) c.steps.invariant
