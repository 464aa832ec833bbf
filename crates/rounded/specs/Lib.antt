pub mod Roundeds
pub mod Compared
pub mod Close
pub mod Errors
pub mod Rounding
pub mod ValuesLemmas
pub mod Settled
