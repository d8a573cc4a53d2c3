mod Rounding
mod Samples
mod Steps
