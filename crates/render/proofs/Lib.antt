pub mod Emit
pub mod Attributes
pub mod Mapped
