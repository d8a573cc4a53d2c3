mod Bytewise
mod Only
