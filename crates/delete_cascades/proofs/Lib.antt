mod Tests
mod Places
mod Marks
mod Under
mod Stays
mod Settling
