pub mod Names
pub mod Values
pub mod Types
pub mod Directives
pub mod Selections
pub mod Operations
pub mod Documents
pub mod Stacks
