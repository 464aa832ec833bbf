pub mod Table
pub mod Reading
pub mod Trims
pub mod Matching
