pub mod Fractions
pub mod Cross
