mod Frees
mod Lists
