pub mod CommandLine
pub mod Grammar
pub mod Options
pub mod Profiled
pub mod Profiles
