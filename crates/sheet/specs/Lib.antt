pub mod Faults
pub mod Kinds
pub mod Shown
pub mod Tokens
