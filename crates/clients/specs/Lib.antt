pub mod Two
pub mod Plain
