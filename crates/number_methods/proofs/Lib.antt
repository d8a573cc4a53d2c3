mod Near
mod Read
mod Round
mod LawSteps
