mod OneDate
mod Fields
mod Search
mod DaySteps
pub mod TextSteps
mod TextLaws
mod LawSteps
mod Samples
