pub mod Rings
pub mod Sweeping
