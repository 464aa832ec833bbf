pub mod Join
pub mod Shaped
pub mod Refusal
pub mod Reason
pub mod Answers
