mod Steps
mod RowSteps
mod SeedSteps
mod LawSteps
mod RollSteps
mod Samples
