mod Decimals
mod Texts
