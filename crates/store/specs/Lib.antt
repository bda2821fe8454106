pub mod Contents
pub mod Flat
