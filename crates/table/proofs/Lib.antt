pub mod Rule
pub mod Expand
pub mod Leads
pub mod Walks
pub mod Levels
