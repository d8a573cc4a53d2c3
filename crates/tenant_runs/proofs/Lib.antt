mod Deals
mod Ends
mod Numbers
mod Parts
mod Plans
mod Prefixes
