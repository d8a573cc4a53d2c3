pub mod HeapSteps
pub mod Steps
