pub mod Refusal
pub mod Ring
pub mod Waiting
