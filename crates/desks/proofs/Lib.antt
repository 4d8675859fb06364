pub mod Cells
pub mod Stages
pub mod Won
pub mod Moves
