pub mod Cover
pub mod Inside
pub mod NameGraph
pub mod Names
pub mod Nodes
pub mod Path
pub mod Ranges
pub mod SegmentTree
