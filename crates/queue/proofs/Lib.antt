mod Around
pub mod Laws
