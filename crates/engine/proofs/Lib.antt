pub mod Codes
pub mod Called
pub mod Openings
pub mod Looks
pub mod Mask
pub mod Surveying
pub mod Unique
