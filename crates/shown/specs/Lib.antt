pub mod Shown
pub mod Parts
