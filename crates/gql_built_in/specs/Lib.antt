pub mod BuiltIn
pub mod BuiltInTables
pub mod BuiltInWords
