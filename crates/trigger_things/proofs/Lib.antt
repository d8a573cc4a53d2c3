mod Firings
mod More
mod Places
