pub mod Alone
pub mod Walking
pub mod Shown
pub mod Copied
