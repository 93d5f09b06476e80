pub mod Floored
pub mod Refusals
pub mod Sets
