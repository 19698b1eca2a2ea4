mod Answering
mod Breaking
pub mod Fragments
mod Left
mod Observed
mod Reading
