pub mod Rules
pub mod Stacked
