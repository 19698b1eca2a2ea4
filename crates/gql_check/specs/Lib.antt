pub mod Checks
pub mod Faults
pub mod GivenSources
pub mod Loads
pub mod Steps
