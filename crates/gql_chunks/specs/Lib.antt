pub mod Cuts
pub mod Edits
pub mod Examples
pub mod Lists
