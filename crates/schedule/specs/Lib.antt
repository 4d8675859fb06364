pub mod Bytes
pub mod Messages
pub mod Cases
pub mod Stepwise
