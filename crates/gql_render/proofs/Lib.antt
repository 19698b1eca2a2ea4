pub mod Appended
pub mod Choosing
pub mod JsonTexts
pub mod Ranking
