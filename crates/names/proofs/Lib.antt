pub mod Sames
pub mod Occurs
pub mod Attributes
