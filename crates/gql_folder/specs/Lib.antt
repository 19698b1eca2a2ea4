pub mod Roles
pub mod Folders
pub mod Adding
pub mod Examples
