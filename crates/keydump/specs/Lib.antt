pub mod Hexadecimal
pub mod Lines
pub mod Counts
