pub mod Cutting
pub mod Editing
pub mod Members
pub mod Pushing
pub mod Searching
pub mod Splitting
