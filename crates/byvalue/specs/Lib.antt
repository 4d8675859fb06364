pub mod Lent
pub mod GivenBack
pub mod Ready
pub mod Entries
