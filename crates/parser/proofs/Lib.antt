pub mod Bound
pub mod Flags
pub mod Meanings
pub mod Steps
pub mod ForEver
