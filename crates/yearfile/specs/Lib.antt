pub mod Told
pub mod File
pub mod Bytes
