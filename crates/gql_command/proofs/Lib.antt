pub mod FlagWords
pub mod LineAnswers
pub mod LineWords
pub mod Numbers
pub mod PlainServe
pub mod ServeOptions
pub mod ServeWords
mod Profiling
mod Joining
