pub mod Names
pub mod Tags
pub mod Words
pub mod Attrs
pub mod Is
