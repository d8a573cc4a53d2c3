mod Counts
mod Halves
mod Occurs
mod Walks
mod LawSteps
mod LawSides
