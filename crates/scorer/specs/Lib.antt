pub mod Content
pub mod Weight
