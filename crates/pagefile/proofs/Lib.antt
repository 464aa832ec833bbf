pub mod Listed
pub mod Sized
pub mod Accepting
pub mod Written
pub mod Reread
pub mod Exact
pub mod Linking
