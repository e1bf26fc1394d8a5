pub mod Symbols
pub mod Tags
pub mod Walks
pub mod Roles
pub mod Pages
pub mod Rels
