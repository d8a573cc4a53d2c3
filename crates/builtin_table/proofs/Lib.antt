mod Facts
mod LawSteps
