pub mod Examples
pub mod RootFaults
pub mod RootSelections
pub mod V30SingleRootField
pub mod Walks
