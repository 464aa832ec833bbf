pub mod Points
pub mod Answer
pub mod Listed
