pub mod Joins
pub mod Bounds
pub mod Scans
pub mod Fills
