pub mod Whole
pub mod Keeping
pub mod Kept
pub mod Feeding
pub mod Listing
