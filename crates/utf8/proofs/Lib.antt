pub mod Rows
pub mod Encoding
pub mod Texts
pub mod Scalars
