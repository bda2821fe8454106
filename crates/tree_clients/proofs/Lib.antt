pub mod Planned
pub mod Putting
