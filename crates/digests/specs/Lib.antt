pub mod BigEndian
pub mod EightBytes
