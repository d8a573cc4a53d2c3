mod Places
mod Cells
mod Grouping
mod LawSteps
mod Samples
