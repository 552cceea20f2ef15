pub mod Added
pub mod Resolving
