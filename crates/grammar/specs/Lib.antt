pub mod Grammar
pub mod Sheet
pub mod Sets
