pub mod Levels
pub mod Symbol
pub mod Repetition
pub mod Recursion
pub mod Files
pub mod Sources
