pub mod Figures
pub mod Widths
pub mod Cuts
pub mod Beginnings
pub mod Verdict
