pub mod Ranges
pub mod Exact
pub mod Laws
pub mod Greatest
pub mod Choice
