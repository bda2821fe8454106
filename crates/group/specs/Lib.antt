pub mod Kind
pub mod Residues
pub mod Kinds
pub mod Parcels
pub mod Figures
