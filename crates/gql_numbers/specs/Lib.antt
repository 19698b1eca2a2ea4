pub mod Doubles
pub mod Decimals
pub mod Laws
pub mod Examples
