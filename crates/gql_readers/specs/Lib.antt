pub mod Changes
pub mod Chunks
pub mod Indexes
pub mod Merged
pub mod OrderLaws
pub mod Orders
pub mod Readers
pub mod Replacements
