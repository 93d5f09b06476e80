pub mod Annotations
pub mod Floors
pub mod Requests
pub mod Ordered
