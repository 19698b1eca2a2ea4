pub mod Laws
pub mod RootParts
