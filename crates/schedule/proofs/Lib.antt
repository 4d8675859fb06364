pub mod Bytes
pub mod Behind
pub mod Chunks
pub mod Written
pub mod Cases
