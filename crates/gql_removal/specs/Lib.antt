pub mod Asked
pub mod Examples
pub mod Removals
pub mod Subjects
pub mod Worlds
