pub mod Tests
pub mod Derivations
pub mod Closed
pub mod Scripts
pub mod Witnessed
pub mod SheetSets
