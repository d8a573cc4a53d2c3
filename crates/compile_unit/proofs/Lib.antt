pub mod MethodSteps
pub mod Ranks
pub mod StartSteps
pub mod Images
