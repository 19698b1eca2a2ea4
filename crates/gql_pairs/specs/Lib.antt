pub mod Doubts
pub mod Fragments
pub mod Gathering
pub mod Groups
pub mod Growing
pub mod Sweeps
pub mod Tables
