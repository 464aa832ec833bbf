pub mod Render
pub mod Found
pub mod Outline
