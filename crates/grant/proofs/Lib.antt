mod Verdicts
mod Walks
mod Found
mod Keyed
mod Filled
mod Added
pub mod Serving
pub mod Lawfully
mod Issues
mod Narrows
