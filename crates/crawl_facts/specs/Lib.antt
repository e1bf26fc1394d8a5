pub mod Archives
pub mod Laws
pub mod Pages
