pub mod TypeMoves
mod Pairs
mod Looks
mod Deep
mod LookSteps
