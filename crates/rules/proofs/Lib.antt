pub mod Lengths
pub mod Entries
pub mod First
pub mod Plain
pub mod Records
pub mod Stages
pub mod Walks
pub mod Unique
