pub mod Cells
pub mod Entry
pub mod Stack
pub mod Steps
pub mod Comes
pub mod Expands
pub mod Walk
pub mod Level
