pub mod Ahead
pub mod Numbered
pub mod Lengths
pub mod Parts
pub mod Outcomes
pub mod Cases
