pub mod FileMaps
pub mod FileNames
pub mod LiteralTexts
pub mod Profiles
pub mod Rules
pub mod Texts
pub mod Trees
