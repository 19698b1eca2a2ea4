pub mod Brought
pub mod Loaded
