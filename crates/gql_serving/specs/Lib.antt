pub mod SoundSchemas
pub mod Owned
pub mod OwnedAmong
pub mod Owners
pub mod SamePlaces
pub mod Laws
