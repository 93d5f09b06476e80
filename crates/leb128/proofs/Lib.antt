pub mod Numbers
pub mod Refused
pub mod Encodings
pub mod Reading
