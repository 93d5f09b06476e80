pub mod Members
pub mod Floors
