mod Lefts
mod Listings
