pub mod Powers
pub mod Values
pub mod OfParts
pub mod OfRounding
pub mod OfTexts
pub mod OfFewest
