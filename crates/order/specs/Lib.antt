pub mod Orders
pub mod Comparisons
pub mod Lexical
pub mod Totals
