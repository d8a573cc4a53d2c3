pub mod MethodNamings
pub mod MethodUses
pub mod BuiltinUses
pub mod Callees
