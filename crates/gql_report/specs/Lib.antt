pub mod Laws
pub mod Order
pub mod OrderParts
pub mod Total
