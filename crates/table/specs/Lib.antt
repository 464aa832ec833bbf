pub mod Rows
pub mod Table
pub mod Checks
pub mod Tabulate
pub mod Fits
pub mod Links
pub mod Stored
