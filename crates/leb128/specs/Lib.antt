pub mod Unsigned
pub mod Refusals
