mod Deep
mod Items
mod Joined
mod Opened
mod Samples
