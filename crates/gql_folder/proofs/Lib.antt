mod Names
mod Added
