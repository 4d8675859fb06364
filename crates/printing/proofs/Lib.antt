pub mod Stores
pub mod Decimals
pub mod Digits
pub mod Lines
pub mod Cases
