mod RecordSteps
mod WorkSteps
