pub mod Memories
pub mod Rings
pub mod Sweeps
