pub mod Lists
pub mod Naming
pub mod Places
pub mod Reading
pub mod Selecting
pub mod Taking
pub mod Walking
pub mod Whole
