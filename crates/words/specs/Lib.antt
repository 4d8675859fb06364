pub mod Words
pub mod Spelling
pub mod Promises
