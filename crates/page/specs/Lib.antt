pub mod Kinds
pub mod Forest
pub mod Kept
pub mod Coding
