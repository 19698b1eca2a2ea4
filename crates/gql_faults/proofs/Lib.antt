pub mod Apart
pub mod Counting
pub mod Firsts
