pub mod Turned
pub mod Members
