pub mod File
pub mod Opening
pub mod Format
pub mod Links
pub mod Opened
pub mod Kept
