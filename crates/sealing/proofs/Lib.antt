pub mod Drift
pub mod Telescope
pub mod Runs
pub mod Filled
pub mod Doubled
pub mod Deciding
