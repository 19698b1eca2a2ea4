pub mod Adding
pub mod Answered
pub mod Answering
pub mod Breaks
pub mod Readers
pub mod Stored
pub mod Unread
pub mod Untouched
