mod Blocks
mod Rows
mod Statuses
mod Tenants
