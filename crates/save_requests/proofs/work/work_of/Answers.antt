use Rattle.std.proofs.Common.{rules}
use Rattle.save_requests.specs.Saves.{OnlyRecords, NoRecords}
use Rattle.save_requests.specs.declared.records.RecordsEnd.TheVariants.{At}
use Rattle.save_requests.proofs.WorkSteps.{saved, refused}
use Rattle.save_requests.proofs.work.work_of.Goals as goal

pub returns-in-Ok : goal.returns-in-Ok
returns-in-Ok c =
    let told : OnlyRecords c.args.object.now.fields c.args.save.now.rows c.in-Ok.rows = search rules in
    saved c.args.places.now.schema.now c.args.save.now c.args.number c.args.object.now c.requires.of c.in-Ok.rows told

pub returns-in_ok-fault_in-in-Err-At : goal.returns-in_ok-fault_in-in-Err-At
returns-in_ok-fault_in-in-Err-At c =
    let told : NoRecords c.args.object.now.fields c.args.save.now.rows (At c.in-Err-At.row c.in-Err-At.word) = search rules in
    refused c.args.places.now.schema.now c.args.save.now c.args.number c.args.object.now c.requires.of c.in-Err-At.row c.in-Err-At.word c.in_ok-fault_in-in-Err-At.field-0 told.0 told.1 c.in_ok-fault_in-in-Err-At.ensures
