pub mod Deeps
