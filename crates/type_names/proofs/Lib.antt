pub mod WalkSteps
mod TreeSteps
