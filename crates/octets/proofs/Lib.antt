pub mod Bytes
pub mod Front
