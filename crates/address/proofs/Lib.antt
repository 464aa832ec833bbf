pub mod Shapes
pub mod Joins
