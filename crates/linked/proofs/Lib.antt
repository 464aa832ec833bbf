pub mod Lists
pub mod Depths
pub mod Relatives
pub mod Linked
pub mod Verdict
