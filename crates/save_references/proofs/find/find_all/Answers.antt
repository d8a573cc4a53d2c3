use Rattle.save_meaning.specs.Drafts.{references}
use Rattle.save_statements.specs.Records.{going}
use Rattle.save_references.proofs.Finding.{begins, one_more}
use Rattle.save_references.proofs.find.find_all.Goals as goal

pub loop-reference-init : goal.loop-reference-init
loop-reference-init c =
    begins c.args.overlay.now (going c.args.records.now) (references 0 c.args.fields.now) c.in_ok-left.left c.args.answers.now c.new-found.result c.in_ok-left.ensures c.new-found.ensures

pub loop-reference-preserved : goal.loop-reference-preserved
loop-reference-preserved c =
    one_more c.args.overlay.now (going c.args.records.now) (references 0 c.args.fields.now) c.loop-reference.left c.pop.new.self c.args.answers.now c.loop-reference.answers c.find_one.new.answers c.loop-reference.found c.add.new.found
    c.in-Some.reference c.in-Found.rows c.in_ok-rows.field-0 c.loop-reference.invariant c.in-Some.ensures c.in-Found.is c.in_ok-rows.ensures c.in_ok-add-in-Found.ensures
