pub mod Plans
pub mod Picks
pub mod Stages
