pub mod Joins
pub mod Pages
pub mod Scores
pub mod Worth
