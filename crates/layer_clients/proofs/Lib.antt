pub mod Twice
pub mod Opened
