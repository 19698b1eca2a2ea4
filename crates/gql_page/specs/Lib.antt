pub mod Cut
pub mod Markdown
