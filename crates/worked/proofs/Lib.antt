pub mod Tells
pub mod Laying
pub mod Calling
pub mod Stacks
pub mod Sheets
