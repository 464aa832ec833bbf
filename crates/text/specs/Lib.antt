pub mod Space
pub mod Held
pub mod Trim
pub mod Trimming
pub mod Marks
