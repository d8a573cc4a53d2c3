mod Groups
mod Paths
mod Conds
mod Locks
