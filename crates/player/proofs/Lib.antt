pub mod Rest
pub mod Opened
pub mod Played
pub mod Only
pub mod Whole
pub mod Cases
pub mod Demands
pub mod Unique
