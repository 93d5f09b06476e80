pub mod Maps
pub mod Orders
pub mod Searches
pub mod Edits
pub mod Tables
