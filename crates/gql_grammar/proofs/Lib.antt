pub mod Cursors
pub mod Loops
pub mod Outcomes
pub mod Rests
pub mod Unrolled
pub mod Levels
pub mod Files
pub mod Sources
