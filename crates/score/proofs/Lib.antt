pub mod Greatest
pub mod Ranges
pub mod Exact
pub mod Choice
pub mod Fractions
