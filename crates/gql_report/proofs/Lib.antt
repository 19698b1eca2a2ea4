pub mod Apart
pub mod Members
pub mod OneList
pub mod Ordered
pub mod RuleNames
