pub mod Keys
pub mod Refusals
pub mod Borrowed
pub mod Reading
pub mod Readers
pub mod Texts
pub mod Ordered
