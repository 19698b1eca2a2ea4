pub mod Changing
pub mod Looking
pub mod Stepping
pub mod Covering
pub mod Rooming
pub mod Lasting
