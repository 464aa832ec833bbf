pub mod Links
pub mod Records
pub mod Opening
pub mod Opened
pub mod Kept
