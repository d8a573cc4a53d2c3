mod Moving
mod Methods
mod Begins
