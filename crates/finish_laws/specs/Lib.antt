pub mod Laws
pub mod Going
