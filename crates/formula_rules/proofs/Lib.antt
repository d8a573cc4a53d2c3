mod Folds
mod Runs
mod Told
mod Eaches
mod Formulas
mod Whole
