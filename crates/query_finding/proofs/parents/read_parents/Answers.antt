use Rattle.std.proofs.Common.{arith}
use Rattle.query_finding.specs.Steps.{site_of}
use Rattle.query_finding.proofs.Over.{path_found, path_wants, reads_begin, reads_end}
use Rattle.query_finding.proofs.parents.read_parents.Goals as goal

pub loop-path-init : goal.loop-path-init
loop-path-init c = reads_begin (site_of c.args.schema.now c.args.ticket) c.args.overlay.now c.args.object c.args.paths.now c.args.rows.now c.args.answers.now c.new-known.result c.new-known.ensures

pub returns-in-Wants : goal.returns-in-Wants
returns-in-Wants c =
    path_wants (site_of c.args.schema.now c.args.ticket) c.args.overlay.now c.args.object c.args.paths.now c.args.rows.now c.args.answers.now c.loop-path.path-index c.loop-path.known c.loop-path.answers c.loop-path.invariant
    c.path-item.result c.loop-path-test.true c.path-item.is c.read_parent.new.known c.read_parent.new.answers c.in_ok-question.field-0 c.in_ok-question.ensures c.in-Wants.question c.in-Wants.is

pub loop-path-preserved : goal.loop-path-preserved
loop-path-preserved c =
    path_found (site_of c.args.schema.now c.args.ticket) c.args.overlay.now c.args.object c.args.paths.now c.args.rows.now c.args.answers.now c.loop-path.path-index c.loop-path.known c.loop-path.answers c.loop-path.invariant
    c.path-item.result c.loop-path-test.true c.path-item.is c.read_parent.new.known c.read_parent.new.answers c.in_ok-question.field-0 c.in_ok-question.ensures _ c.in-Found.is

pub returns : goal.returns
returns c =
    reads_end (site_of c.args.schema.now c.args.ticket) c.args.overlay.now c.args.object c.args.paths.now c.args.rows.now c.args.answers.now c.loop-path.path-index c.loop-path.known c.loop-path.answers c.loop-path.invariant (omega arith)
