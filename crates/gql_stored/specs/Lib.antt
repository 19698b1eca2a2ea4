pub mod Effects
pub mod Changes
pub mod Rooms
pub mod Laws
pub mod Examples
