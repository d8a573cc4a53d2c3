mod Cutting
mod Twice
mod Failing
