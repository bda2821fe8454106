pub mod Layers
pub mod Posting
pub mod Fit
