pub mod Entering
pub mod FirstItems
pub mod Holes
pub mod Introspecting
pub mod Midway
pub mod Picked
pub mod Reaching
pub mod Running
