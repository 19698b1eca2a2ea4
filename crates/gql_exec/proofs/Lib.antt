pub mod Alone
pub mod Mutating
pub mod Recursing
pub mod SomePlan
pub mod SomeResponse
pub mod Starting
