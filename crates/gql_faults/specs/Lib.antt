pub mod Apart
pub mod Directives
pub mod Faults
pub mod Names
pub mod Places
pub mod TypeNames
