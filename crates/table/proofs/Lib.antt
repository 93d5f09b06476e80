pub mod Edited
pub mod Held
pub mod Moved
pub mod Ordered
pub mod Rows
pub mod Swept
