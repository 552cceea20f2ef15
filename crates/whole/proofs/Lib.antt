pub mod Behind
pub mod Gains
pub mod Feeds
pub mod Reading
pub mod Endings
pub mod Sheets
