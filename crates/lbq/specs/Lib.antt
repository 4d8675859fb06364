pub mod Narrow
pub mod Replies
pub mod Promises
pub mod Version
