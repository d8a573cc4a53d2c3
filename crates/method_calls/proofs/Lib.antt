mod NumberLaws
mod Samples
