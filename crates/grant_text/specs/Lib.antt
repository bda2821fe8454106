pub mod Columns
pub mod Texts
pub mod Readings
