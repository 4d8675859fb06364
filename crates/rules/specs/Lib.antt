pub mod Promises
pub mod Asked
pub mod Holders
