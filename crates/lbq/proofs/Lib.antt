pub mod Crossing
pub mod Narrowed
mod Replied
pub mod Unique
pub mod OneVersion
