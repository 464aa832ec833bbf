pub mod Table
pub mod Decode
