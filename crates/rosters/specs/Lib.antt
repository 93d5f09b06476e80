pub mod Sets
pub mod Bits
pub mod Places
pub mod Members
