pub mod Levels
pub mod Plans
pub mod Cells
pub mod Shapes
pub mod Trees
