pub mod Joined
pub mod Rows
