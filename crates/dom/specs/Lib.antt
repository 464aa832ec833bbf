pub mod Passes
pub mod Deep
pub mod Under
pub mod Small
pub mod Scan
pub mod Fill
