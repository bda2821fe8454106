pub mod Bridge
pub mod Mixing
pub mod Schedule
